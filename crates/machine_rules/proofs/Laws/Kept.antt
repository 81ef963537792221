-- An instruction and a run keep the progress of a program in order. Assumes nothing.
use Rattle.lists.proofs.Kit.{◌≡◌, refl, sym, ap, ◌∙◌, subst, true, false, List, ℕ, zero, suc, ◌<◌, arith, eqb, Bool}
use Rattle.lists.specs.Pick.{pick}
use Rattle.lists.proofs.Laws.Pick.{by, picks, skips, both_left, both_right, both-join, not-both}
use Rattle.sia.specs.Names.{op_of}
use Rattle.area.proofs.Laws.Slots as Slots
use Rattle.host.specs.Places.{whose}
use Rattle.host.specs.Order.{parent_in_order, terms_in_order}
use Rattle.machine_rules.specs.View.{Turn, read_only_mode, Volume}
use Rattle.machine_rules.specs.declared.Setting.{Setting}
use Rattle.machine_rules.specs.Inputs.{data_in, args_of, inputs_of}
use Rattle.machine_rules.specs.declared.Args.{Args}
use Rattle.machine_rules.specs.Plan.{record_count}
use Rattle.machine_rules.specs.Kinds.{changes}
use Rattle.machine_rules.specs.Effect.{ground_of, effect}
use Rattle.machine_rules.specs.Run.{failed_progress, failing, ran_progress, succeeding, stepped, current, step, going, ready, runs, turned}
use Rattle.machine_rules.specs.Facts.{Good, Lent, start_of}
use Rattle.machine_rules.proofs.Laws.Passed.{Passed, stepped-either, can, plan_fine}
use Rattle.machine_rules.proofs.Laws.Steps.{not-failed, left-going, ready-going, runs-go, runs-stop}
use Rattle.machine_rules.proofs.Laws.Effects.{effect-kept, effect-length, size-whole, size-read}
use Rattle.machine_rules.proofs.Laws.Copies.{few-sectors}
use Rattle.sia.specs.declared.Op.{Op}
use Rattle.sia.specs.declared.Instruction.{Instruction}
use Rattle.host.specs.declared.Place.{Place}
use Rattle.host.specs.declared.Terms.{Terms}
use Rattle.host.specs.declared.Progress.{Progress}
use Rattle.machine_rules.specs.declared.Spot.{Spot}
use Rattle.machine_rules.specs.Roots.{root_at}

-- ---- progress

terms-size : (ps : List Place) (t : Terms) (m n : ℕ) → (read_only_mode t ≡ true → n ≡ m) → terms_in_order ps t m ≡ true → terms_in_order ps t n ≡ true
unfolding terms_in_order parent_in_order read_only_mode
terms-size ps t m n f h =
    both-join _ _
    (by (read_only_mode t)
    (λ e. ap (λ (x : ℕ). pick (read_only_mode t) (eqb x 0) (whose t.head.contract ps).held) (f e) ∙ both_left _ _ h)
    (λ e. skips (read_only_mode t) (eqb n 0) _ e ∙ sym (skips (read_only_mode t) (eqb m 0) _ e) ∙ both_left _ _ h))
    (both_right (pick (read_only_mode t) (eqb m 0) (whose t.head.contract ps).held) _ h)

pub failed-good : (s : Setting) (p : Progress) → p.failed ≡ false → Good s p → Good s (failed_progress p)
unfolding failed_progress
failed-good s p e g =
    let o = g.orderly in
    record {
      orderly = record {
        ran = o.ran;
        paid = o.paid;
        fits = omega (arith, o.fits, skips {A = ℕ} p.failed 0 72 e, picks {A = ℕ} true 0 72 refl);
        whole = o.whole;
        within = o.within;
        staged = o.staged;
      };
      terms = terms-size s.places s.terms p.size _ (λ u. refl) g.terms;
      entries = g.entries;
    }

pub ran-good : (s : Setting) (vol : Volume) (p : Progress) (asked : Bool) (n : ℕ) (op : Op) (a : Args) (d bytes : List ℕ) {r : Spot → List ℕ} → Lent s
    → p.failed ≡ false → p.ran < s.terms.head.count → Passed s r p op a (record_count s.sector asked n op a) → Good s p
    → Good s (ran_progress p (plan_fine s p asked n op a)
    (effect s.sector (ground_of s vol) p.size op a d (record { staged = p.staged; bytes = bytes })).staged)
unfolding ran_progress
ran-good s vol p asked n op a d bytes L e lt q g =
    let o = g.orderly in
    let u = few-sectors s p L g in
    record {
      orderly = record {
        ran = omega arith;
        paid = q.paid;
        fits = omega (arith, q.room, skips {A = ℕ} p.failed 0 72 e);
        whole = size-whole s p op a _ q o.whole;
        within = q.fits;
        staged = effect-kept s vol p (start_of s) (Slots.some s.sector L.size) L.few (omega (arith, L.most, g.entries)) o.whole
            (omega (arith, u, g.entries)) o.staged bytes op a d _ q;
      };
      terms = terms-size s.places s.terms p.size _ (λ r. size-read op p.size a (not-both (changes op) q.allowed r)) g.terms;
      entries = effect-length s.sector (ground_of s vol) p.size op a d _ ∙ g.entries;
    }

-- ---- a step, a run

pub stepped-good : (s : Setting) (vol : Volume) (i : Instruction) (l : List (List ℕ)) (t : Turn) → Lent s → going s.terms t.progress ≡ true
    → Good s t.progress → Good s (stepped s vol i l t).progress
unfolding succeeding failing
stepped-good s vol i l t L h g =
    stepped-either s vol i l t (λ x. Good s x.progress)
    (λ e. ran-good s vol t.progress i.proof _ (op_of i.name) (args_of (op_of i.name) l) (data_in l) t.stage L (not-failed s t h)
    (left-going s t h).1
    (can s (root_at s vol t) t.progress i l e).passed g)
    (λ _. failed-good s t.progress (not-failed s t h) g)

pub runs-good : (s : Setting) (vol : Volume) (a : List ℕ) (k n : ℕ) (t : Turn) → Lent s → Good s t.progress → Good s (runs s vol a k n t).progress
unfolding runs step turned
runs-good s vol a k zero t L g = g
runs-good s vol a k (suc n) t L g =
    by (ready s k t)
    (λ r. subst (λ (x : Turn). Good s x.progress) (sym (runs-go s vol a k n t r))
    (runs-good s vol a k n (step s vol a t) L (stepped-good s vol (current s t) (inputs_of (current s t) a) t L (ready-going s k t r) g)))
    (λ r. subst (λ (x : Turn). Good s x.progress) (sym (runs-stop s vol a k (suc n) t r)) g)

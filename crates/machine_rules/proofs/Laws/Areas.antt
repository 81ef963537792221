-- Instructions keep the lengths of stage and output. Assumes nothing.
use Rattle.lists.proofs.Kit.{◌≡◌, refl, sym, ap, ◌∙◌, subst, List, [], ◌∷◌, ℕ, zero, suc, ◌/◌, length, get_or, ltb, eqb}
use Rattle.lists.proofs.Laws.Pick.{by, picks, skips}
use Rattle.area.specs.Area.{zeros}
use Rattle.area.proofs.Laws.Puts.{length-put}
use Rattle.sia.specs.Names.{op_of}
use Rattle.host.specs.Empty.{none}
use Rattle.machine_rules.specs.View.{Turn, Volume}
use Rattle.machine_rules.specs.declared.Setting.{Setting}
use Rattle.machine_rules.specs.Inputs.{data_in, args_of, inputs_of}
use Rattle.machine_rules.specs.declared.Args.{Args}
use Rattle.machine_rules.specs.Effect.{Ground, ground_of, Staging, new_copy, copied, laid, span_written, resized, effect, rehashed}
use Rattle.machine_rules.specs.Run.{failing, succeeding, stepped, current, step, ready, runs, turned}
use Rattle.machine_rules.proofs.Laws.Passed.{stepped-either}
use Rattle.machine_rules.proofs.Laws.Steps.{runs-go, runs-stop}
use Rattle.sia.specs.declared.Op.{Op}
use Rattle.sia.specs.declared.Op.TheVariants.{Read, ReadSector, Write, Copy, Swap, Truncate, Unknown}
use Rattle.sia.specs.declared.Instruction.{Instruction}

written-length : (z : ℕ) (n : Ground) (at : ℕ) (bs : List ℕ) (g : Staging) → length (span_written z n at bs g).bytes ≡ length g.bytes
unfolding span_written laid copied new_copy
written-length z n at bs g =
    length-put _ _ bs
    ∙ by (eqb (get_or g.staged (at / z) none) none)
    (λ e. ap (λ (x : Staging). length x.bytes) (picks (eqb (get_or g.staged (at / z) none) none) _ g e) ∙ length-put g.bytes _ _)
    (λ e. ap (λ (x : Staging). length x.bytes) (skips (eqb (get_or g.staged (at / z) none) none) _ g e))

resized-length : (z : ℕ) (n : Ground) (now to : ℕ) (g : Staging) → length (resized z n now to g).bytes ≡ length g.bytes
unfolding resized new_copy
resized-length z n now to g =
    by (ltb now to)
    (λ e. ap (λ (x : Staging). length x.bytes) (picks (ltb now to) _ _ e) ∙ length-put g.bytes _ (zeros z))
    (λ e. by (ltb to now)
    (λ d. ap (λ (x : Staging). length x.bytes) (skips (ltb now to) _ _ e ∙ picks (ltb to now) _ _ d))
    (λ d. ap (λ (x : Staging). length x.bytes) (skips (ltb now to) _ _ e ∙ skips (ltb to now) _ _ d)))

pub effect-bytes : (z : ℕ) (n : Ground) (size : ℕ) (op : Op) (a : Args) (d : List ℕ) (g : Staging) → length (effect z n size op a d g).bytes
    ≡ length g.bytes
unfolding effect
effect-bytes z n size Read a d g = refl
effect-bytes z n size ReadSector a d g = refl
effect-bytes z n size Write a d g = written-length z n a.first _ g
effect-bytes z n size Copy a d g = written-length z n a.first _ g
effect-bytes z n size Swap a d g = written-length z n a.first _ _ ∙ written-length z n a.second _ g
effect-bytes z n size Truncate a d g = resized-length z n size a.first g
effect-bytes z n size Unknown a d g = refl

pub rehashed-length : (z : ℕ) (g : Staging) (l copies : List ℕ) → length (rehashed z g l copies) ≡ length copies
unfolding rehashed
rehashed-length z g [] copies = refl
rehashed-length z g (at ∷ l) copies = length-put _ _ _ ∙ rehashed-length z g l copies

-- the areas of two turns are equally long
pub record Alike (t u : Turn) : Type 0 where
  pub stage : length t.stage ≡ length u.stage
  pub output : length t.output ≡ length u.output
  pub roots : length t.roots ≡ length u.roots

pub stepped-alike : (s : Setting) (vol : Volume) (i : Instruction) (l : List (List ℕ)) (t : Turn) → Alike (turned t (stepped s vol i l t)) t
unfolding turned succeeding failing
stepped-alike s vol i l t =
    stepped-either s vol i l t (λ x. Alike (turned t x) t)
    (λ _. record {
      stage = effect-bytes s.sector (ground_of s vol) t.progress.size (op_of i.name) (args_of (op_of i.name) l) (data_in l) _;
      output = length-put t.output _ _;
      roots = rehashed-length s.sector _ _ t.roots;
    })
    (λ _. record { stage = refl; output = length-put t.output _ _; roots = refl })

pub runs-alike : (s : Setting) (vol : Volume) (a : List ℕ) (k n : ℕ) (t : Turn) → Alike (runs s vol a k n t) t
unfolding runs step
runs-alike s vol a k zero t = record { stage = refl; output = refl; roots = refl }
runs-alike s vol a k (suc n) t =
    by (ready s k t)
    (λ r. let u = stepped-alike s vol (current s t) (inputs_of (current s t) a) t in let v = runs-alike s vol a k n (step s vol a t) in
    subst (λ (x : Turn). Alike x t) (sym (runs-go s vol a k n t r))
    (record { stage = v.stage ∙ u.stage; output = v.output ∙ u.output; roots = v.roots ∙ u.roots }))
    (λ r. subst (λ (x : Turn). Alike x t) (sym (runs-stop s vol a k (suc n) t r)) (record { stage = refl; output = refl; roots = refl }))

-- Arrays keep their lengths while pieces are given. Assumes nothing.
use Rattle.lists.specs.Pick.{pick}
use Rattle.lists.proofs.Laws.Pick.{by}
use Rattle.lists.proofs.Laws.Ways.{either_way}
use Rattle.lists.proofs.Kit.{◌≡◌, refl, sym, ap, ◌∙◌, subst, Bool, List, [], ◌∷◌, ℕ, zero, suc, length}
use Rattle.sia.specs.Names.{op_of}
use Rattle.sia.specs.Decode.{decode}
use Rattle.host.specs.Empty.{started}
use Rattle.host.specs.With.{with_program, with_came, with_progress, with_stage_roots}
use Rattle.machine_rules.specs.View.{Turn, turn_of, with_run, Volume, setting_of, volume_of}
use Rattle.machine_rules.specs.declared.Setting.{Setting}
use Rattle.machine_rules.specs.Inputs.{data_in, inputs_of, args_of}
use Rattle.machine_rules.specs.Effect.{ground_of}
use Rattle.machine_rules.specs.Run.{failed_progress, failing, ran_progress, succeeding, stepped, current, step, ready, runs, run, turned}
use Rattle.machine_rules.specs.Calls.{answered, begun, opened_head, opened, Pieced, pieced, accepted, piece}
use Rattle.machine_rules.specs.Calls.{accepted_by}
use Rattle.machine_rules.specs.Visit.{Areas, Opening, opens, gives, Declared}
use Rattle.machine_rules.specs.Trace.{fed, fed_by}
use Rattle.machine_rules.proofs.Laws.Passed.{stepped-either}
use Rattle.machine_rules.proofs.Cutting.{Answered, ok, refused, piece-answers}
use Rattle.machine_rules.proofs.Laws.Effects.{effect-length}
use Rattle.machine_rules.proofs.Laws.Steps.{runs-go, runs-stop}
use Rattle.machine_rules.proofs.Laws.Areas.{runs-alike}
use Rattle.sia.specs.declared.Instruction.{Instruction}
use Rattle.host.specs.declared.Host.{Host}
use Rattle.machine_rules.specs.Calls.{Answer}

-- ---- arrays keep their lengths

stepped-entries : (s : Setting) (vol : Volume) (i : Instruction) (l : List (List ℕ)) (t : Turn)
    → length (stepped s vol i l t).progress.staged ≡ length t.progress.staged
unfolding succeeding failing ran_progress failed_progress
stepped-entries s vol i l t =
    stepped-either s vol i l t (λ x. length x.progress.staged ≡ length t.progress.staged)
    (λ _. effect-length s.sector (ground_of s vol) t.progress.size (op_of i.name) (args_of (op_of i.name) l) (data_in l) _)
    (λ _. refl)

runs-entries : (s : Setting) (vol : Volume) (a : List ℕ) (k n : ℕ) (t : Turn)
    → length (runs s vol a k n t).progress.staged ≡ length t.progress.staged
unfolding runs step turned
runs-entries s vol a k zero t = refl
runs-entries s vol a k (suc n) t =
    by (ready s k t)
    (λ r. ap (λ (x : Turn). length x.progress.staged) (runs-go s vol a k n t r) ∙ runs-entries s vol a k n (step s vol a t)
    ∙ stepped-entries s vol (current s t) (inputs_of (current s t) a) t)
    (λ r. ap (λ (x : Turn). length x.progress.staged) (runs-stop s vol a k (suc n) t r))

-- what opening and pieces keep: arrays as declared, and the contracts, the roots kept beside the disk's slots and the sector size of h
pub record Same (h x : Host) : Type 0 where
  pub declared : Declared x
  pub places : x.places ≡ h.places
  pub roots : x.diskroots ≡ h.diskroots
  pub sector : x.sector ≡ h.sector

still : (h : Host) → Declared h → Same h h
still h d = record { declared = d; places = refl; roots = refl; sector = refl }

-- down the chain of an opening: each refusal leaves the host
abbrev Opens : Host → Answer → Type 0
Opens h r = Same h r.host

opens-or : (h : Host) (b : Bool) (n : ℕ) (r : Answer) → Declared h → Opens h r → Opens h (pick b (answered n 0 h) r)
opens-or h b n r d q = either_way (Opens h) b _ r (λ _. still h d) (λ _. q)

pub same-opens : (h : Host) (o : Opening) → Declared h → Same h (opens h o).host
unfolding opened opened_head with_program begun started
same-opens h o d =
    opens-or h _ 1 _ d (opens-or h _ 2 _ d (opens-or h _ 3 _ d (opens-or h _ (decode o.bytes).number _ d
    (opens-or h _ 7 _ d (opens-or h _ 11 _ d (record {
      declared = record { places = d.places; staged = refl; disk = d.disk; stage = d.stage };
      places = refl;
      roots = refl;
      sector = refl;
    }))))))

abbrev Takes : Host → Pieced → Type 0
Takes h r = Same h r.host

accepted-same : (disk : List ℕ) (w : Pieced) (b : List ℕ) → Declared w.host
    → Takes w.host (accepted disk w.host w.stage w.input w.output b)
unfolding accepted_by with_run with_stage_roots with_program with_progress with_came run turn_of
accepted-same disk w b d =
    let s = setting_of w.host in
    let vol = volume_of w.host disk in
    record {
      declared = record {
        places = d.places;
        staged = runs-entries s vol _ _ s.terms.head.count (turn_of w.host w.stage w.output) ∙ d.staged;
        disk = d.disk;
        stage = (runs-alike s vol _ _ s.terms.head.count (turn_of w.host w.stage w.output)).roots ∙ d.stage;
      };
      places = refl;
      roots = refl;
      sector = refl;
    }

same-piece : (disk : List ℕ) (w : Pieced) (b : List ℕ) → Declared w.host
    → Takes w.host (piece disk w.host w.stage w.input w.output b)
same-piece disk w b d =
    under (piece disk w.host w.stage w.input w.output b) (piece-answers disk w b)
  where
    under : (r : Pieced) → Answered w (accepted disk w.host w.stage w.input w.output b) r → Takes w.host r
    under r (ok e) = subst (Takes w.host) (sym e) (accepted-same disk w b d)
    under r (refused n _ e) = subst (Takes w.host) (sym e) (still w.host d)

pub same-fed : (disk : List ℕ) (w : Pieced) (bs : List (List ℕ)) → Declared w.host → Same w.host (fed disk w bs).host
unfolding fed_by
same-fed disk w [] d = still w.host d
same-fed disk w (b ∷ bs) d =
    let one = same-piece disk w b d in
    let more = same-fed disk (piece disk w.host w.stage w.input w.output b) bs one.declared in
    record {
      declared = more.declared;
      places = more.places ∙ one.places;
      roots = more.roots ∙ one.roots;
      sector = more.sector ∙ one.sector;
    }

pub declared-gives : (h : Host) (a : Areas) (bytes : List ℕ) → Declared h → Declared (gives h a bytes).host
declared-gives h a bytes d = (same-piece a.disk (pieced 0 0 h a.stage a.input a.output) bytes d).declared

-- "Keep the sector roots.": what is proved of kept roots, of a sound host and of any. Assumes nothing.
pub mod Steps
pub mod Runs
pub mod Parts
pub mod Look
pub mod Programs
pub mod After
pub mod Contracts
pub mod Statements
use Rattle.lists.proofs.Kit.{◌≡◌, refl, sym, ap, ap₂, ◌∙◌, false, not, List, [], ◌∷◌, ℕ}
use Rattle.lists.proofs.Laws.Pick.{picks, skips}
use Rattle.area.specs.Area.{same}
use Rattle.tree.specs.Tree as Tree
use Rattle.machine_rules.specs.View.{kept, worked, areas_right}
use Rattle.machine_rules.specs.Sound.{roots_right, sound, sounded_at, sounded}
use Rattle.machine_rules.specs.Visit.{Sound}
use Rattle.machine_rules.specs.Depot.{Depot, Call, forming, dropping, opening, piecing, interrupting, reaching, locating, closing, Said, AllSaid}
use Rattle.machine_rules.specs.Depot.{Result, of_piece, of_interrupt, of_reached, of_located, of_closing, lending, result_by, left, results_by, end_by}
use Rattle.machine_rules.specs.KeptRoots.{Lasting, Asked, KeptRoots}
use Rattle.host.specs.Order.{in_order}
use Rattle.host.specs.declared.Host.{Host}
use Rattle.machine_rules.proofs.Beside.{leaves}
use Rattle.machine_rules.proofs.Sound.Look.{located-alike}
use Rattle.machine_rules.proofs.Sound.Statements.{sounds, made-sound, bytewise, faithful}

-- ---- the call that says whether a host is sound

asked : (h : Host) (disk stage : List ℕ) → Asked h disk stage
unfolding sounded sound
asked h disk stage = record {
  damaged = λ e. picks (not (in_order h)) _ _ (ap not e);
  lengths = λ o e. skips (not (in_order h)) _ _ (ap not o) ∙ picks (not (areas_right h disk stage)) _ _ (ap not e);
  says = λ o e. skips (not (in_order h)) _ _ (ap not o) ∙ skips (not (areas_right h disk stage)) _ _ (ap not e)
      ∙ ap (sounded_at 0) (sym (picks (in_order h) (roots_right disk h stage) false o));
}

-- ---- any calls in turn

result-alike : (d : Depot) (c : Call) → Sound d.host d.disk d.stage → result_by kept d c ≡ result_by worked d c
unfolding result_by
result-alike d (forming id) s = refl
result-alike d (dropping id) s = refl
result-alike d (opening p) s = refl
result-alike d (piecing input output bytes) s = ap of_piece ((faithful d.host (lending d input output) s).piece bytes)
result-alike d (interrupting output) s = ap of_interrupt (faithful d.host (lending d [] output) s).interrupt
result-alike d reaching s = ap of_reached (faithful d.host (lending d [] []) s).reached
result-alike d (locating key) s = ap of_located (located-alike d.host d.disk d.stage s key)
result-alike d (closing g) s = ap of_closing ((faithful d.host (lending d [] []) s).closing g)

left-sound : (d : Depot) (c : Call) → Sound d.host d.disk d.stage → Said c
    → let e = left d (result_by kept d c) in Sound e.host e.disk e.stage
unfolding result_by left
left-sound d (forming id) s q = (sounds d.host (lending d [] []) s).forming id
left-sound d (dropping id) s q = (sounds d.host (lending d [] []) s).dropping id
left-sound d (opening p) s q = (sounds d.host (lending d [] []) s).opening p q
left-sound d (piecing input output bytes) s q = (sounds d.host (lending d input output) s).piece bytes
left-sound d (interrupting output) s q = (sounds d.host (lending d [] output) s).interrupt
left-sound d reaching s q = s
left-sound d (locating key) s q = s
left-sound d (closing g) s q = (sounds d.host (lending d [] []) s).closing g

lasting : (d : Depot) (l : List Call) → Sound d.host d.disk d.stage → AllSaid l → Lasting d l
unfolding results_by end_by
lasting d [] s q = record { same = refl; ends = refl; sound = s }
lasting d (c ∷ l) s q =
    let r = result-alike d c s in
    let on = lasting (left d (result_by kept d c)) l (left-sound d c s q.0) q.1 in
    record {
      same = ap₂ ◌∷◌ r (on.same ∙ ap (λ (x : Result). results_by worked (left d x) l) r);
      ends = on.ends ∙ ap (λ (x : Result). end_by worked (left d x) l) r;
      sound = on.sound;
    }

pub kept-roots : KeptRoots
kept-roots = record {
  faithful = faithful;
  bytewise = bytewise;
  sounds = sounds;
  made = made-sound;
  lasting = lasting;
  asked = asked;
  leaves = leaves;
}

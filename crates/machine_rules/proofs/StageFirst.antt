-- "Look in the stage first.": what is proved of the look-up by root, of ReadSector and of the call `locate`. z is the sector size; f reads roots.
-- Assumes nothing.
use Rattle.lists.proofs.Kit.{◌≡◌, refl, sym, ap, ◌∙◌, true, not, List, [], ℕ}
use Rattle.lists.specs.Pick.{pick}
use Rattle.lists.proofs.Laws.Pick.{picks, skips, never}
use Rattle.host.specs.Order.{in_order}
use Rattle.machine_rules.specs.View.{Way, Turn, turn_of, sector, Volume, setting_of, volume_of}
use Rattle.machine_rules.specs.declared.Setting.{Setting}
use Rattle.machine_rules.specs.Roots.{sector_root, root_by, root_of, root_at}
use Rattle.machine_rules.specs.Seats.{seated, seats, all_seats, first_seat, seats_in, is_staged, not_located}
use Rattle.machine_rules.specs.Seats.{located_at, located_by}
use Rattle.machine_rules.specs.Inputs.{ill_formed, past_end, well_formed, args_of}
use Rattle.machine_rules.specs.Plan.{Source, missing, is_there, sought_source, sector_source, source_of, refused, planned_inputs}
use Rattle.machine_rules.specs.Plan.{planned_args, planned, judged}
use Rattle.machine_rules.specs.Kinds.{kind}
use Rattle.machine_rules.specs.Visit.{Areas, Sound}
use Rattle.machine_rules.specs.StageFirst.{reading}
use Rattle.machine_rules.specs.StageFirst.{Reads, NotFound, Locates, Held, Soundly, StageFirst}
use Rattle.machine_rules.proofs.Laws.Found.{source-root}
use Rattle.machine_rules.proofs.Laws.Search.{finds}
use Rattle.machine_rules.proofs.Laws.Homes.{apart-reading}
use Rattle.machine_rules.proofs.Sound.Look.{located-alike, read-bytes}
use Rattle.sia.specs.declared.Op.{Op}
use Rattle.sia.specs.declared.Op.TheVariants.{ReadSector}
use Rattle.sia.specs.declared.Instruction.{Instruction}
use Rattle.host.specs.declared.Progress.{Progress}
use Rattle.host.specs.declared.Host.{Host}
use Rattle.machine_rules.specs.declared.Spot.{Spot}
use Rattle.machine_rules.specs.declared.Spot.TheVariants.{OnDisk, InStage}
use Rattle.machine_rules.specs.Plan.{Plan}
use Rattle.machine_rules.proofs.Laws.Looks.{same-finds, looks}

-- ---- what ReadSector reads

reads : (s : Setting) (vol : Volume) (t : Turn) (key : List ℕ) → Reads s vol t key
unfolding source_of sector_source sought_source root_of root_by sector_root
reads s vol t key = record {
  finds = λ x e. ap sought_source e;
  misses = λ e. ap sought_source e;
  bytes = λ w x e. sym (ap (λ (way : Way). root_by way s.sector vol.disk t.stage vol.roots t.roots x) w)
      ∙ source-root s (root_at s vol t) t.progress key x e;
}

-- 25, down the chain of checks
inputs-missing : (s : Setting) (f : Spot → List ℕ) (p : Progress) (i : Instruction) (l : List (List ℕ)) → well_formed ReadSector l ≡ true
    → source_of s f p ReadSector (args_of ReadSector l).key ≡ missing → planned_inputs s f p i ReadSector l ≡ refused 25
unfolding planned_inputs planned_args kind is_there pick
inputs-missing s f p i l well none =
    let from = source_of s f p ReadSector (args_of ReadSector l).key in
    skips (not (well_formed ReadSector l)) (refused 23) _ (ap not well)
    ∙ picks (not (is_there from)) (refused 25) _ (ap (λ (x : Source). not (is_there x)) none)

refuses : (s : Setting) (vol : Volume) (t : Turn) → NotFound s vol t
unfolding judged planned refused
refuses s vol t i l formed within name well none =
    ap (λ (r : Plan). r.number) (skips (ill_formed i) (refused 21) _ formed ∙ skips (past_end s.terms.head.length i) (refused 22) _ within
    ∙ ap (λ (op : Op). planned_inputs s (root_at s vol t) t.progress i op l) name
    ∙ inputs-missing s (root_at s vol t) t.progress i l well ((reads s vol t (args_of ReadSector l).key).misses none))

-- ---- the call `locate`

locates : (h : Host) (key : List ℕ) → Locates h key
unfolding located_by located_at seats_in seats seated
locates h key = record {
  damaged = λ e. picks (not (in_order h)) (not_located 1) _ (ap not e);
  found = λ o x q. skips (not (in_order h)) (not_located 1) _ (ap not o) ∙ ap located_at q;
  nowhere = λ o q. skips (not (in_order h)) (not_located 1) _ (ap not o) ∙ ap located_at q;
  program = λ e. picks h.program.active _ (all_seats h.sector h.places) e;
  none = λ e.
      let f = root_of (setting_of h) (volume_of h []) [] h.stageroots in
      let is : first_seat f key (all_seats h.sector h.places) ≡ first_seat f key (seats_in h) =
      ap (first_seat f key) (sym (skips h.program.active _ (all_seats h.sector h.places) e)) in
      same-finds (reading h.sector h.places) f key is
      (finds (reading h.sector h.places) f key (apart-reading h.sector h.places));
}

held : (z : ℕ) (x : Spot) → Held z x
unfolding is_staged sector
held z (OnDisk n) = record { stage = λ e disk other stage. never (sym e); disk = λ e disk stage other. refl }
held z (InStage n) = record { stage = λ e disk other stage. refl; disk = λ e disk stage other. never e }

-- ---- on a sound host

soundly : (h : Host) (a : Areas) (key : List ℕ) → Sound h a.disk a.stage → Soundly h a key
unfolding source_of turn_of
soundly h a key s = record {
  located = located-alike h a.disk a.stage s key;
  bytes = λ live x e. read-bytes h a.disk a.stage s live key x e;
}

pub stage-first : StageFirst
stage-first = record { looks = looks; reads = reads; refuses = refuses; locates = locates; held = held; soundly = soundly }

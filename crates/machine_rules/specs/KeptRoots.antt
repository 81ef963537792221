-- "Keep the sector roots.": "for a sound host with areas lent back as left they are 01's, and any calls leave it sound". Document 01 is the
-- same definitions with roots worked out from the bytes. Assumes nothing.
use Rattle.std.specs.Prelude.{◌≡◌, true, false, List, ℕ, ◌+◌, ◌*◌, ◌/◌, ◌≤◌, length}
use Rattle.lists.specs.Tests.{every}
use Rattle.area.specs.Little.{Bytes}
use Rattle.tree.specs.Tree as Tree
use Rattle.tree.specs.Walk as Walk
use Rattle.host.specs.With.{program_of}
use Rattle.host.specs.Places.{whose}
use Rattle.host.specs.Order.{in_order}
use Rattle.host.specs.Calls.{freshed, formed, dropped}
use Rattle.machine_rules.specs.View.{kept, worked, areas_right, whole, Volume}
use Rattle.machine_rules.specs.declared.Setting.{Setting}
use Rattle.machine_rules.specs.Roots.{sector_root, contract_root, range_proof}
use Rattle.machine_rules.specs.Sound.{sound, sounded_at, sounded}
use Rattle.machine_rules.specs.Facts.{Solid, Within, valid}
use Rattle.machine_rules.specs.Visit.{Areas, Opening, Agreement, opens, gives, stops, closes, Sound, gives_by, stops_by, reaches_by, closes_by}
use Rattle.machine_rules.specs.Trace.{lent_to, fed_by, visited_by, whole_run_by, sectors_of, pair_in, running, running_sectors}
use Rattle.machine_rules.specs.Depot.{Depot, Call, AllSaid, results_by, end_by}
use Rattle.host.specs.declared.Host.{Host}
use Rattle.machine_rules.specs.declared.Spot.{Spot}

-- of a sound host: every call answers and leaves what document 01 says. Making, forming, dropping and opening look at no root.
pub record Faithful (h : Host) (a : Areas) : Type 0 where
  pub piece : (bytes : List ℕ) → gives_by kept h a bytes ≡ gives_by worked h a bytes
  pub interrupt : stops_by kept h a ≡ stops_by worked h a
  pub reached : reaches_by kept h a ≡ reaches_by worked h a
  pub closing : (g : Agreement) → closes_by kept h a g ≡ closes_by worked h a g
  -- pieces in turn, and a program opened on the host and given pieces, as demand 3 has them
  pub pieces : (bs : List (List ℕ)) → fed_by kept a.disk (lent_to h a) bs ≡ fed_by worked a.disk (lent_to h a) bs
  pub visits : (o : Opening) → Bytes o.bytes → (bs : List (List ℕ)) → visited_by kept h o a bs ≡ visited_by worked h o a bs
  -- demand 2's records
  pub records : (all : List ℕ) → areas_right h a.disk a.stage ≡ true → (program_of h).active ≡ true
      → whole_run_by kept h a all ≡ whole_run_by worked h a all
  -- and so the root that an agreement must name is the tree's over all bytes of the parent as it is read now
  pub running : areas_right h a.disk a.stage ≡ true → (program_of h).active ≡ true
      → (running h a).root ≡ Tree.root (running_sectors h a)
  -- and the root of each contract, as records of failures show it and a commit leaves it, is that over all its bytes
  pub committed : areas_right h a.disk a.stage ≡ true → (id : List ℕ)
      → (pair_in h.sector h a.disk (whose id h.places)).root ≡ Tree.root (sectors_of h.sector a.disk (whose id h.places))

-- with roots worked out from the bytes, the root of a contract and the proof of a range are those of all its bytes, as document 01 has them
pub record Bytewise (s : Setting) (vol : Volume) (stage : List ℕ) (l : List Spot) : Type 0 where
  pub root : contract_root (sector_root s.sector vol.disk stage) l ≡ Tree.root (whole s.sector vol.disk stage l)
  pub proof : (at n : ℕ) → Within s.sector (length l) at n
      → range_proof s.sector (sector_root s.sector vol.disk stage) vol.disk stage l at n ≡ Walk.proof (whole s.sector vol.disk stage l)
      (at / 64) ((at + n) / 64)

-- of a sound host: every call, refused or not, leaves it sound with the areas as the call leaves them
pub record Sounds (h : Host) (a : Areas) : Type 0 where
  pub forming : (id : List ℕ) → Sound (formed h id).host a.disk a.stage
  pub dropping : (id : List ℕ) → Sound (dropped h id).host a.disk a.stage
  pub opening : (o : Opening) → Bytes o.bytes → Sound (opens h o).host a.disk a.stage
  pub piece : (bytes : List ℕ) → Sound (gives h a bytes).host a.disk (gives h a bytes).stage
  pub interrupt : Sound (stops h a).host a.disk a.stage
  pub closing : (g : Agreement) → Sound (closes h a g).host (closes h a g).disk a.stage

-- the same of any calls in turn
pub record Lasting (d : Depot) (l : List Call) : Type 0 where
  pub same : results_by kept d l ≡ results_by worked d l
  pub ends : end_by kept d l ≡ end_by worked d l
  pub sound : let e = end_by kept d l in Sound e.host e.disk e.stage

-- the roots kept beside the slots are as they were
pub record Beside (h after : Host) : Type 0 where
  pub disk : after.diskroots ≡ h.diskroots
  pub stage : after.stageroots ≡ h.stageroots

-- of any host: instructions change roots beside the stage's slots and a commit those beside the disk's (demand 2 says which); no call changes
-- another, so a slot that is freed keeps its root
pub record Leaves (h : Host) (a : Areas) : Type 0 where
  pub forming : (id : List ℕ) → Beside h (formed h id).host
  pub dropping : (id : List ℕ) → Beside h (dropped h id).host
  pub opening : (o : Opening) → Beside h (opens h o).host
  pub piece : (bytes : List ℕ) → (gives h a bytes).host.diskroots ≡ h.diskroots
  pub interrupt : Beside h (stops h a).host
  pub closing : (g : Agreement) → (closes h a g).host.stageroots ≡ h.stageroots
  pub uncommitted : (g : Agreement) → ((closes h a g).number ≡ 0 → g.agree ≡ true → ⊥) → Beside h (closes h a g).host

-- "a separate call that recomputes everything says whether a host is sound": its whole answers
pub record Asked (h : Host) (disk stage : List ℕ) : Type 0 where
  pub damaged : in_order h ≡ false → sounded disk h stage ≡ sounded_at 1 false
  pub lengths : in_order h ≡ true → areas_right h disk stage ≡ false → sounded disk h stage ≡ sounded_at 2 false
  pub says : in_order h ≡ true → areas_right h disk stage ≡ true → sounded disk h stage ≡ sounded_at 0 (sound disk h stage)

pub record KeptRoots : Type 0 where
  -- "for a sound host with areas lent back as left they are 01's"
  pub faithful : (h : Host) (a : Areas) → Sound h a.disk a.stage → Faithful h a
  pub bytewise : (s : Setting) (vol : Volume) (stage : List ℕ) (l : List Spot) → Solid s vol → length stage ≡ s.stagesectors * s.sector
      → every (valid s) l ≡ true → length l ≤ 64 → Bytewise s vol stage l
  -- "and any calls leave it sound"
  pub sounds : (h : Host) (a : Areas) → Sound h a.disk a.stage → Sounds h a
  -- a host that is made is sound, whatever bytes are lent with it: it has no contract
  pub made : (z d s : ℕ) (disk stage : List ℕ) → (freshed z d s).number ≡ 0 → Sound (freshed z d s).host disk stage
  pub lasting : (d : Depot) (l : List Call) → Sound d.host d.disk d.stage → AllSaid l → Lasting d l
  -- "Code 1 tests order as before; a separate call that recomputes everything says whether a host is sound."
  pub asked : (h : Host) (disk stage : List ℕ) → Asked h disk stage
  pub leaves : (h : Host) (a : Areas) → Leaves h a

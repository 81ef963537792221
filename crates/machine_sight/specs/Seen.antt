-- What is seen, as spots, when it lies within the areas, and when its roots are kept. z is the sector size. Assumes nothing.
use Rattle.std.specs.Prelude.{◌≡◌, Bool, true, List, ℕ, ◌+◌, ◌*◌, ◌/◌, ◌%◌, ◌≤◌, ◌<◌, length, leb}
use Rattle.lists.specs.Tests.{every}
use Rattle.lists.specs.Tab.{tab}
use Rattle.area.specs.Area.{part}
use Rattle.area.specs.Slots.{Size}
use Rattle.machine_rules.specs.View.{sector, spot_of}
use Rattle.machine_rules.specs.declared.Spot.{Spot}
use Rattle.machine_rules.specs.declared.Spot.TheVariants.{OnDisk, InStage}
use Rattle.machine_sight.specs.declared.Seen.{Seen}

-- the spots of the first `count` positions
unfoldable pub spots_of : Seen → List Spot
spots_of v = tab 0 v.count (spot_of v.slots v.staged)

-- the bytes of slot n are within the area
unfoldable pub holds : ℕ → List ℕ → ℕ → Bool
holds z area n = leb (n * z + z) (length area)

-- those of a spot are within its area
unfoldable pub lies : ℕ → List ℕ → List ℕ → Spot → Bool
lies z disk stage (OnDisk n) = holds z disk n
lies z disk stage (InStage n) = holds z stage n

-- at most 64 sectors of a size that there is are seen, and all lie within the areas
pub record Lies (z : ℕ) (disk stage : List ℕ) (v : Seen) : Type 0 where
  pub size : Size z
  pub few : v.count ≤ 64
  pub spots : every (lies z disk stage) (spots_of v) ≡ true

-- at most 64 sectors are seen, and a root is kept beside each
pub record Known (diskroots stageroots : List ℕ) (v : Seen) : Type 0 where
  pub few : v.count ≤ 64
  pub spots : every (lies 32 diskroots stageroots) (spots_of v) ≡ true

-- the n bytes from `at` on, in the sector where they begin
abbrev pub span_of : ℕ → List ℕ → List ℕ → Seen → ℕ → ℕ → List ℕ
span_of z disk stage v at n = part (sector z disk stage (spot_of v.slots v.staged (at / z))) (at % z) n

-- they lie in one of so many sectors
pub record Inside (z count at n : ℕ) : Type 0 where
  pub below : at / z < count
  pub one : at % z + n ≤ z

-- they do so, and are whole segments, one at least
pub record Ranged (z count at n : ℕ) : Type 0 where
  pub inside : Inside z count at n
  pub some : 0 < n
  pub first : at % 64 ≡ 0
  pub whole : n % 64 ≡ 0

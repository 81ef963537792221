-- "a host is sound when it is in order and each kept root is its sector's", and the call that says so. z is the sector size. Assumes nothing.
use Rattle.std.specs.Prelude.{Bool, false, not, List, ℕ, ◌*◌, eqb}
use Rattle.lists.specs.Pick.{pick, both, either}
use Rattle.lists.specs.Tests.{every}
use Rattle.area.specs.Area.{same, part}
use Rattle.tree.specs.Tree.{root}
use Rattle.host.specs.Empty.{none}
use Rattle.host.specs.With.{program_of}
use Rattle.host.specs.Places.{taken}
use Rattle.host.specs.Order.{in_order}
use Rattle.machine_rules.specs.View.{areas_right}
use Rattle.host.specs.declared.Host.{Host}

-- the root kept beside slot n of an area is that of the sector's bytes
unfoldable pub right : ℕ → List ℕ → List ℕ → ℕ → Bool
right z bytes roots n = same (part roots (n * 32) 32) (root (part bytes (n * z) z))

-- of the slots of all staged positions
unfoldable pub staged_right : ℕ → List ℕ → List ℕ → List ℕ → Bool
staged_right z stage roots staged = every (λ n. either (eqb n none) (right z stage roots n)) staged

-- each committed position of each contract, and each staged position of an open program; other slots are not looked at
unfoldable pub roots_right : List ℕ → Host → List ℕ → Bool
roots_right disk h stage =
    both (every (right h.sector disk h.diskroots) (taken h.sector h.places))
    (either (not (program_of h).active) (staged_right h.sector stage h.stageroots (program_of h).progress.staged))

unfoldable pub sound : List ℕ → Host → List ℕ → Bool
sound disk h stage = both (in_order h) (roots_right disk h stage)

-- ---- the call

-- what it answers: document 01's number, and yes or no
pub record Sounded : Type 0 where
  pub number : ℕ
  pub sound : Bool

abbrev pub sounded_at : ℕ → Bool → Sounded
sounded_at n good = record { number = n; sound = good }

-- 1, 2; else 0 and whether the host is sound, everything worked out afresh
unfoldable pub sounded : List ℕ → Host → List ℕ → Sounded
sounded disk h stage =
    let good = roots_right disk h stage in
    pick (not (in_order h)) (sounded_at 1 false)
    (pick (not (areas_right h disk stage)) (sounded_at 2 false)
    (sounded_at 0 good))

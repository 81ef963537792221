-- What copying back asks of its callers, and the copying of one position. Slots have z bytes: the sectors' size, or 32 for the roots kept
-- beside them. Assumes nothing.
use Rattle.std.specs.Prelude.{◌≡◌, false, List, ℕ, ◌+◌, ◌*◌, ◌≤◌, ◌<◌, length, get_or, eqb}
use Rattle.lists.specs.Pick.{pick}
use Rattle.area.specs.Area.{part, put}
use Rattle.host.specs.Empty.{none}

-- what stage slot `from` holds, unless that is none, in disk slot `to`
unfoldable pub laid : ℕ → List ℕ → ℕ → ℕ → List ℕ → List ℕ
laid z stage from to disk = pick (eqb from none) disk (put disk (to * z) (part stage (from * z) z))

-- both slots lie within their areas
pub record Lies (z : ℕ) (stage : List ℕ) (from to : ℕ) (disk : List ℕ) : Type 0 where
  pub source : eqb from none ≡ false → from * z + z ≤ length stage
  pub target : eqb from none ≡ false → to * z + z ≤ length disk

-- and so do those of each of n positions
pub record Back (z : ℕ) (stage staged slots : List ℕ) (n : ℕ) (disk : List ℕ) : Type 0 where
  pub few : n ≤ 64
  pub each : (j : ℕ) → j < n → Lies z stage (get_or staged j none) (get_or slots j 0) disk

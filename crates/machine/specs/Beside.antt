-- What the functions that look at kept roots ask of their callers. z is the sector size. Assumes nothing.
use Rattle.std.specs.Prelude.{◌≡◌, true, List, ℕ, ◌*◌, ◌≤◌, length}
use Rattle.lists.specs.Tests.{every}
use Rattle.area.specs.Slots.{Size}
use Rattle.host.specs.Order.{slot_in_order}

-- an area has so many sectors, of a size that there is, with a root kept beside each, and the slot of each position is one of them, or none
pub record Beside (z : ℕ) (bytes roots slots : List ℕ) : Type 0 where
  pub size : Size z
  pub many : ℕ
  pub within : many * z ≤ length bytes
  pub rooted : many * 32 ≤ length roots
  pub each : every (slot_in_order many) slots ≡ true

-- Slots by marks: an array has an entry for each slot, true where the slot is used. Assumes nothing.
use Rattle.std.specs.Prelude.{Bool, true, false, not, List, [], ◌∷◌, ◌++◌, ℕ, zero, suc, ◌-◌, length, get_or, set, eqb}
use Rattle.lists.specs.Tests.{some}
use Rattle.lists.specs.Lowest.{lowest}
use Rattle.lists.specs.Tab.{tab}
use Rattle.area.specs.Area.{zeros}

-- the mark of slot n where the slots of a list are used
unfoldable pub flag : List ℕ → ℕ → Bool
flag l n = some (eqb n) l

-- the marks of all slots
unfoldable pub marks_of : List ℕ → List Bool
marks_of l = tab 0 64 (flag l)

-- slot n has no mark
abbrev pub unmarked : List Bool → ℕ → Bool
unmarked marks n = not (get_or marks n false)

-- n new slots, each the lowest that has no mark
unfoldable pub new_from : ℕ → List Bool → ℕ → List ℕ
new_from disk marks zero = []
new_from disk marks (suc n) = let x = lowest (unmarked marks) 0 disk in x ∷ new_from disk (set marks x true) n

-- slots in an array of 64: zeros behind them
unfoldable pub filled : List ℕ → List ℕ
filled l = l ++ zeros (64 - length l)

-- `showing::records` is safe and ends: a record without a fault is whole, and ends behind where it begins. Assumes nothing.
use Rattle.lists.proofs.Kit.{◌+◌, ◌-◌, ◌≤◌, length}
use Rattle.showing.proofs.records.Given as goal

abbrev pub invariant-loop-at : goal.invariant-loop-at
invariant-loop-at g l = (l.at ≤ length l.input) × (l.place ≤ l.at + 1)

abbrev pub decreases-loop-at : goal.decreases-loop-at
decreases-loop-at g l = length l.input - l.at

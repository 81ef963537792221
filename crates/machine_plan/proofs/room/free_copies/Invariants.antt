-- `machine_plan::room::free_copies` meets its contract. The loop's invariant: what is counted and the slots that are left give the count. Assumes
-- nothing.
use Rattle.lists.proofs.Kit.{◌≡◌, ◌+◌, ◌-◌, ◌≤◌}
use Rattle.lists.specs.Tests.{count, unused}
use Rattle.machine_plan.proofs.room.free_copies.Given as goal

abbrev pub invariant-loop-i : goal.invariant-loop-i
invariant-loop-i l =
    (l.free ≤ l.i) × (l.free + count (unused l.staged) l.i (l.copies - l.i) ≡ count (unused l.staged) 0 l.copies)

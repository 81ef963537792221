-- `machine::commit::marked` meets its contract. The loop's invariant: the slots that are left to mark. Assumes nothing.
use Rattle.lists.proofs.Kit.{◌≡◌, drop}
use Rattle.machine.proofs.Laws.Marks.{marks}
use Rattle.machine.proofs.commit.marked.Given as goal

abbrev pub invariant-loop-slot : goal.invariant-loop-slot
invariant-loop-slot l = marks l.initial.taken l.slots ≡ marks l.taken (drop l.slot-index l.slots)

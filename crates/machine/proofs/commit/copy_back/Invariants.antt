-- `machine::commit::copy_back` meets its contract. The loop's invariant: the positions that no pair has told yet are left to copy. Assumes nothing.
use Rattle.lists.proofs.Kit.{◌≡◌, ◌-◌, length}
use Rattle.machine_rules.specs.Commit.{copied_back}
use Rattle.machine.proofs.commit.copy_back.Given as goal

abbrev pub invariant-loop-from : goal.invariant-loop-from
invariant-loop-from l = copied_back l.z l.stage l.fn.staged l.fn.slots 0 l.n l.fn.disk
    ≡ copied_back l.z l.stage l.fn.staged l.fn.slots (length l.yielded) (l.n - length l.yielded) l.disk

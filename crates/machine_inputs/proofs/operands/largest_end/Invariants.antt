-- `machine_inputs::operands::largest_end` meets its contract. The loop's invariant: what is found so far and the operands that are left give the
-- largest. Assumes nothing.
use Rattle.lists.proofs.Kit.{◌≡◌, false, max, take, slice}
use Rattle.lists.specs.Tests.{some}
use Rattle.machine_rules.specs.Inputs.{largest}
use Rattle.machine_inputs.specs.Ends.{ends_past}
use Rattle.machine_inputs.proofs.operands.largest_end.Given as goal

abbrev pub invariant-loop-i : goal.invariant-loop-i
invariant-loop-i l =
    (some (ends_past l.declared) (slice l.i l.n l.list) ≡ false)
    × (max l.most (largest (slice l.i l.n l.list)) ≡ largest (take l.n l.list))

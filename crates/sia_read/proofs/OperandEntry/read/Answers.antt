-- An operand is two numbers, the offset first. Assumes nothing.
use Rattle.lists.proofs.Kit.{refl}
use Rattle.sia.specs.Decode.{operand}
use Rattle.sia_read.proofs.Laws.{goes, stops, fails}
use Rattle.sia_read.proofs.OperandEntry.read.Goals as goal

pub returns-in_err-offset : goal.returns-in_err-offset
unfolding operand
returns-in_err-offset c = fails _ _ _ c.from_residual.ensures (stops _ c.in_err-offset.ensures)

pub returns-in_err-len : goal.returns-in_err-len
unfolding operand
returns-in_err-len c =
    fails _ _ _ c.from_residual-in_err-len.ensures (goes _ c.in_ok-offset.ensures (stops _ c.in_err-len.ensures))

pub returns : goal.returns
unfolding operand
returns c = goes _ c.in_ok-offset.ensures (goes _ c.in_ok-len.ensures refl)

-- `sia_read::read_head` meets its contract: a fault, bytes left over, or the head. Assumes nothing.
use Rattle.lists.proofs.Kit.{sym, ap, ◌∙◌, eqb-true, eqb-false}
use Rattle.sia.specs.Decode.{decode, answer}
use Rattle.sia_read.proofs.Laws.{refused, more, whole}
use Rattle.sia_read.proofs.read_head.Goals as goal

pub returns-in_err-head : goal.returns-in_err-head
unfolding decode answer
returns-in_err-head c = refused _ _ c.from_residual.ensures (ap answer c.in_err-head.ensures)

pub returns-then-not-is_empty : goal.returns-then-not-is_empty
unfolding decode
returns-then-not-is_empty c = more _ _ (eqb-false _ _ (sym c.if-not-is_empty.ensures)) ∙ ap answer c.in_ok-head.ensures

pub returns : goal.returns
unfolding decode
returns c = whole _ _ (eqb-true _ _ (sym c.if-not-is_empty.ensures)) ∙ ap answer c.in_ok-head.ensures

-- `machine::commit::marked` meets its contract. The loop's invariant: the slots that are left to mark. Assumes nothing.
use Rattle.lists.proofs.Kit.{sym, ap, ◌∙◌, ℕ, true, arith, set}
use Rattle.machine.proofs.Laws.Marks.{marks-are}
use Rattle.machine.proofs.Laws.Turns.{mark-one, mark-done}
use Rattle.machine.proofs.commit.marked.Goals as goal

pub loop-slot-preserved : goal.loop-slot-preserved
loop-slot-preserved c =
    let l = c.loop-slot in
    l.invariant ∙ mark-one l.taken _ l.slot-index c.loop-slot-test.true (c.mark.ensures ∙ ap (λ (x : ℕ). set l.taken x true) c.from.ensures)

pub returns : goal.returns
returns c =
    let l = c.loop-slot in
    sym (l.invariant ∙ mark-done l.taken _ l.slot-index (omega arith)) ∙ marks-are _

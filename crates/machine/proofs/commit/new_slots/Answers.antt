-- `machine::commit::new_slots` meets its contract. The loop's invariant: what is left to lay is laid from `at` on. Assumes nothing.
use Rattle.lists.proofs.Kit.{sym, ◌∙◌, arith}
use Rattle.machine.proofs.Laws.Marks.{found-lowest}
use Rattle.machine.proofs.Laws.Turns.{new-one, new-done}
use Rattle.machine.proofs.commit.new_slots.Goals as goal

pub loop-at-preserved : goal.loop-at-preserved
loop-at-preserved c =
    let l = c.loop-at in
    let found = found-lowest l.taken c.args.disk (omega (arith, c.requires.disk_bound)) c.lowest_free.ensures c.unwrap_or-slot.ensures in
    l.invariant ∙ new-one _ l.taken l.slots l.at _ (omega arith) found.0 c.mark.ensures

pub returns : goal.returns
returns c =
    let l = c.loop-at in
    sym (l.invariant ∙ new-done _ l.taken l.slots l.at _ (omega arith))

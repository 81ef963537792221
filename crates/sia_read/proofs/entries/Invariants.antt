-- The loop's invariant: the first entries were read. Assumes nothing.
use Rattle.lists.proofs.Kit.{length}
use Rattle.sia_read.proofs.Several.{Entered}
use Rattle.sia_read.proofs.entries.Given as goal

abbrev pub invariant-loop-entry : goal.invariant-loop-entry
invariant-loop-entry g l = Entered g.T.Entry.says (length l.initial.entry-items) l.fn.rest.now l.entry-items l.rest.now l.entry-index

-- `sia_read::entries` meets its contract: a turn reads one more. Assumes nothing.
use Rattle.lists.proofs.Kit.{refl}
use Rattle.sia_read.proofs.Laws.{list-fails}
use Rattle.sia_read.proofs.Several.{begin, further, stop, done}
use Rattle.sia_read.proofs.entries.Goals as goal

pub loop-entry-init : goal.loop-entry-init
loop-entry-init g c = begin _ _ _ refl

pub loop-entry-preserved : goal.loop-entry-preserved
loop-entry-preserved g c = further _ _ _ c.loop-entry.invariant c.loop-entry-test.true c.in_ok-entry.ensures

pub returns-in_err-entry : goal.returns-in_err-entry
returns-in_err-entry g c =
    list-fails _ _ _ _ c.from_residual.ensures (stop _ _ _ c.loop-entry.invariant c.loop-entry-test.true c.in_err-entry.ensures)

pub returns : goal.returns
returns g c = done _ _ _ c.loop-entry.invariant c.loop-entry-test.false

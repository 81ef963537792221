-- `machine_step::turns::goes_on` meets its contract: a failure first, then the count. Assumes nothing.
use Rattle.lists.proofs.Kit.{refl}
use Rattle.lists.proofs.Laws.Pick.{yes, no}
use Rattle.machine_step.proofs.turns.goes_on.Goals as goal

pub returns-then-not-progress : goal.returns-then-not-progress
returns-then-not-progress c = yes _ _ _ c.if-not-progress.true refl

pub returns-else-not-progress : goal.returns-else-not-progress
returns-else-not-progress c = no _ _ _ c.if-not-progress.false c.if-not-progress.false

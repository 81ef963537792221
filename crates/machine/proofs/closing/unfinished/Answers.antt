-- `machine::closing::unfinished` meets its contract. Assumes nothing.
use Rattle.lists.proofs.Kit.{refl}
use Rattle.lists.proofs.Laws.Pick.{yes, no}
use Rattle.machine_rules.specs.Commit.{unfinished}
use Rattle.machine.proofs.closing.unfinished.Goals as goal

pub returns-then-progress : goal.returns-then-progress
unfolding unfinished
returns-then-progress c = yes _ _ _ c.if-progress.true refl

pub returns : goal.returns
unfolding unfinished
returns c = no _ _ _ c.if-progress.false c.going.ensures

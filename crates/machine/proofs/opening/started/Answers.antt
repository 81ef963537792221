-- `machine::opening::started` meets its contract. Assumes nothing.
use Rattle.lists.proofs.Kit.{refl}
use Rattle.host.specs.Empty.{started}
use Rattle.machine.proofs.opening.started.Goals as goal

pub returns : goal.returns
unfolding started
returns c = refl

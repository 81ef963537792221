-- `machine_step::running::advanced` meets its contract. Assumes nothing.
use Rattle.lists.proofs.Kit.{refl}
use Rattle.machine_rules.specs.Run.{ran_progress}
use Rattle.machine_step.proofs.running.advanced.Goals as goal

pub returns : goal.returns
unfolding ran_progress
returns c = refl

-- `machine_step::going` meets its contract. Assumes nothing.
use Rattle.machine_rules.specs.Run.{going}
use Rattle.machine_step.proofs.going.Goals as goal

pub returns : goal.returns
unfolding going
returns c = c.goes_on.ensures

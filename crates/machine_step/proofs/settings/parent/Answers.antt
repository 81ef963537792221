-- `machine_step::settings::parent` meets its contract. Assumes nothing.
use Rattle.machine_rules.specs.View.{parent}
use Rattle.machine_step.proofs.settings.parent.Goals as goal

pub returns : goal.returns
unfolding parent
returns c = c.place_of.ensures

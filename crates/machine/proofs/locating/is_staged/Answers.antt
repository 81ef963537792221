-- `is_staged` meets its contract. Assumes nothing.
use Rattle.machine_rules.specs.Seats.{is_staged}
use Rattle.machine.proofs.locating.is_staged.Goals as goal

pub returns-in-InStage : goal.returns-in-InStage
unfolding is_staged
returns-in-InStage c = cc

pub returns-in_default : goal.returns-in_default
unfolding is_staged
returns-in_default c = cc

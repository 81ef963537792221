-- `machine_step::running::run` meets its contract: each turn is the run's next, and as many are left as there are instructions. Assumes nothing.
use Rattle.machine_rules.specs.View.{turn, volume}
use Rattle.machine_rules.proofs.Laws.Steps.{left}
use Rattle.machine_step.proofs.Laws.Turns.{Reached}
use Rattle.machine_step.proofs.turns.run.Given as goal

abbrev pub invariant-loop-setting : goal.invariant-loop-setting
invariant-loop-setting l =
    Reached l.setting (volume l.disk l.diskroots) l.input l.k (turn l.initial.progress l.initial.stage l.initial.output l.initial.stageroots) (turn l.progress l.stage l.output l.stageroots)

abbrev pub decreases-loop-setting : goal.decreases-loop-setting
decreases-loop-setting l =
    left l.setting (turn l.progress l.stage l.output l.stageroots)

-- `machine_plan::judge::asked_badly` meets its contract. Assumes nothing.
use Rattle.lists.proofs.Kit.{◌∙◌}
use Rattle.machine_inputs.proofs.Laws.Or.{and-left, and-right}
use Rattle.machine_plan.proofs.judge.asked_badly.Goals as goal

pub returns-then-asked : goal.returns-then-asked
returns-then-asked c = c.bad_proof.ensures ∙ and-right _ _ c.if-asked.true

pub returns-else-asked : goal.returns-else-asked
returns-else-asked c = and-left _ _ c.if-asked.false

-- `machine_plan::sums::far_above` meets its contract. Assumes nothing.
use Rattle.lists.proofs.Kit.{◌∙◌, lt-leb}
use Rattle.machine_plan.proofs.Laws.Sums.{not-far, far}
use Rattle.machine_plan.proofs.sums.far_above.Goals as goal

pub returns-then-a-b : goal.returns-then-a-b
returns-then-a-b c = far _ _ _ c.if-a-b.true

pub returns-else-a-b : goal.returns-else-a-b
returns-else-a-b c = lt-leb _ _ c.if-a-b.false ∙ not-far _ _ _ c.if-a-b.false

-- `machine_inputs::operands::end_of` meets its contract. Assumes nothing.
use Rattle.lists.proofs.Kit.{refl, eq-eqb, ne_eqb}
use Rattle.lists.proofs.Laws.Pick.{yes, no}
use Rattle.machine_inputs.proofs.operands.end_of.Goals as goal

pub returns-then-o-eq0 : goal.returns-then-o-eq0
returns-then-o-eq0 c = yes _ _ _ (eq-eqb _ _ c.if-o-eq0.true) refl

pub returns-else-o-eq0 : goal.returns-else-o-eq0
returns-else-o-eq0 c = no _ _ _ (ne_eqb _ _ c.if-o-eq0.false) refl

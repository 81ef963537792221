-- `asked::provable` meets its contract, test by test. Assumes nothing.
use Rattle.lists.proofs.Kit.{eq-eqb, ne_eqb}
use Rattle.lists.proofs.Laws.Pick.{yes, no}
use Rattle.tree.specs.Answers.{provable, wholes}
use Rattle.tree.proofs.asked.provable.Goals as goal

pub returns-then-bytes-eq0 : goal.returns-then-bytes-eq0
unfolding provable wholes
returns-then-bytes-eq0 c = yes _ _ _ (eq-eqb _ _ c.if-bytes-eq0.true) c.ranged.ensures

pub returns-else-bytes-eq0 : goal.returns-else-bytes-eq0
unfolding provable wholes
returns-else-bytes-eq0 c = no _ _ _ (ne_eqb _ _ c.if-bytes-eq0.false) (ne_eqb _ _ c.if-bytes-eq0.false)

-- `machine::commit::one_back` meets its contract: nothing where nothing is staged. Assumes nothing.
use Rattle.lists.proofs.Kit.{sym, eq-eqb, ne_eqb}
use Rattle.machine.proofs.Laws.Bytes.{laid_none, laid-some}
use Rattle.machine.proofs.commit.one_back.Goals as goal

pub returns-then-from-ne-NONE : goal.returns-then-from-ne-NONE
returns-then-from-ne-NONE c = laid-some _ _ _ _ _ (ne_eqb _ _ c.if-from-ne-NONE.true) c.copy_between.ensures

pub returns-else-from-ne-NONE : goal.returns-else-from-ne-NONE
returns-else-from-ne-NONE c = sym (laid_none _ _ _ _ _ (eq-eqb _ _ c.if-from-ne-NONE.false))

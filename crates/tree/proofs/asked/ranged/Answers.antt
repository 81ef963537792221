-- `asked::ranged` meets its contract, test by test. Assumes nothing.
use Rattle.lists.proofs.Kit.{refl, lt-ltb, le-ltb}
use Rattle.lists.proofs.Laws.Pick.{yes, no}
use Rattle.tree.specs.Checker.{ranged}
use Rattle.tree.proofs.asked.ranged.Goals as goal

pub returns-then-first-end : goal.returns-then-first-end
unfolding ranged
returns-then-first-end c = yes _ _ _ (lt-ltb _ _ c.if-first-end.true) refl

pub returns-else-first-end : goal.returns-else-first-end
unfolding ranged
returns-else-first-end c = no _ _ _ (le-ltb _ _ c.if-first-end.false) (le-ltb _ _ c.if-first-end.false)

-- `Subtree::inside` meets its contract, test by test. Assumes nothing.
use Rattle.lists.proofs.Kit.{refl, le-leb, lt-leb}
use Rattle.lists.proofs.Laws.Pick.{yes, no}
use Rattle.tree.specs.Walk.{inside}
use Rattle.tree.proofs.walks.Subtree.inside.Goals as goal

pub returns-then-range-self : goal.returns-then-range-self
unfolding inside
returns-then-range-self c = yes _ _ _ (le-leb _ _ c.if-range-self.true) refl

pub returns-else-range-self : goal.returns-else-range-self
unfolding inside
returns-else-range-self c = no _ _ _ (lt-leb _ _ c.if-range-self.false) (lt-leb _ _ c.if-range-self.false)

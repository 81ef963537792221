-- `host_contracts::length_right` meets its contract. Assumes nothing.
use Rattle.lists.proofs.Kit.{refl, eq-eqb, ne_eqb}
use Rattle.lists.proofs.Laws.Pick.{yes, no}
use Rattle.host.specs.Calls.{length_right}
use Rattle.host_contracts.proofs.length_right.Goals as goal

pub returns-then-n-z-eq0 : goal.returns-then-n-z-eq0
unfolding length_right
returns-then-n-z-eq0 c = yes _ _ _ (eq-eqb _ _ c.if-n-z-eq0.true) c.lent.ensures

pub returns-else-n-z-eq0 : goal.returns-else-n-z-eq0
unfolding length_right
returns-else-n-z-eq0 c = no _ _ _ (ne_eqb _ _ c.if-n-z-eq0.false) (ne_eqb _ _ c.if-n-z-eq0.false)

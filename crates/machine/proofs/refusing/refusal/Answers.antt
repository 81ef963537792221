-- `machine::refusing::refusal` meets its contract. Assumes nothing.
use Rattle.lists.proofs.Kit.{refl, ap, not}
use Rattle.lists.proofs.Laws.Pick.{yes, no}
use Rattle.machine.proofs.refusing.refusal.Goals as goal

pub returns-then-not-ordered : goal.returns-then-not-ordered
returns-then-not-ordered c = yes _ _ _ (ap not c.if-not-ordered.true) refl

pub returns-then-not-lent : goal.returns-then-not-lent
returns-then-not-lent c = no _ _ _ (ap not c.if-not-ordered.false) (yes _ _ _ (ap not c.if-not-lent.true) refl)

pub returns-then-not-active : goal.returns-then-not-active
returns-then-not-active c = no _ _ _ (ap not c.if-not-ordered.false) (no _ _ _ (ap not c.if-not-lent.false) (yes _ _ _ (ap not c.if-not-active.true) refl))

pub returns : goal.returns
returns c = no _ _ _ (ap not c.if-not-ordered.false) (no _ _ _ (ap not c.if-not-lent.false) (no _ _ _ (ap not c.if-not-active.false) refl))

-- `host_contracts::ready` meets its contract: a walk down the checks. Assumes nothing.
use Rattle.lists.proofs.Kit.{refl, sym, ap, ◌∙◌, not}
use Rattle.lists.proofs.Laws.Pick.{yes, no}
use Rattle.host_contracts.proofs.ready.Goals as goal

pub returns-then-not-in_order : goal.returns-then-not-in_order
returns-then-not-in_order c = yes _ _ _ (ap not (sym c.if-not-in_order.ensures)) refl

pub returns-then-host : goal.returns-then-host
returns-then-host c = no _ _ _ (ap not (sym c.if-not-in_order.ensures)) (yes _ _ _ c.if-host.true refl)

pub returns-then-is_read_only : goal.returns-then-is_read_only
returns-then-is_read_only c =
    no _ _ _ (ap not (sym c.if-not-in_order.ensures))
    (no _ _ _ c.if-host.false (yes _ _ _ (sym c.is_read_only.ensures ∙ c.if-is_read_only.true) refl))

pub returns : goal.returns
returns c =
    no _ _ _ (ap not (sym c.if-not-in_order.ensures))
    (no _ _ _ c.if-host.false (no _ _ _ (sym c.is_read_only.ensures ∙ c.if-is_read_only.false) refl))

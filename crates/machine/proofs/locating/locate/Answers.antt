-- `locate` meets its contract: a walk down the definition. Assumes nothing.
use Rattle.lists.proofs.Kit.{◌≡◌, refl, sym, ap, ◌∙◌, true, not}
use Rattle.lists.proofs.Laws.Pick.{yes, no}
use Rattle.host.specs.Order.{in_order}
use Rattle.machine_rules.specs.View.{volume_by}
use Rattle.machine_rules.specs.Roots.{root_by, root_of}
use Rattle.machine_rules.specs.Seats.{located_at, located_by}
use Rattle.machine.proofs.locating.locate.Goals as goal
use Rattle.machine.proofs.locating.locate.Goals.{Else-not-in_order}

in_order_lem : (c : Else-not-in_order) → in_order c.args.host ≡ true
in_order_lem c = sym c.in_order.ensures ∙ c.if-not-in_order.false

pub returns-then-not-in_order : goal.returns-then-not-in_order
unfolding located_by
returns-then-not-in_order c = yes _ _ _ (ap not (sym c.in_order.ensures ∙ c.if-not-in_order.true)) refl

pub returns : goal.returns
unfolding located_by root_of root_by volume_by
returns c =
    no _ _ _ (ap not (in_order_lem (goal.at.returns c).Else-not-in_order)) (c.located_at.ensures ∙ ap located_at c.sought-found.ensures)

pub sought-found-requires : goal.sought-found-requires
sought-found-requires c = in_order_lem c

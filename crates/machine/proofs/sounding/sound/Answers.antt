-- `sound` meets its contract: a walk down the definition. Assumes nothing.
use Rattle.lists.proofs.Kit.{refl, sym, ap, not}
use Rattle.lists.proofs.Laws.Pick.{yes, no}
use Rattle.machine_rules.specs.View.{disk_right, areas_right}
use Rattle.machine_rules.specs.Sound.{sounded_at, sounded}
use Rattle.machine.proofs.sounding.sound.Goals as goal

pub returns-then-not-in_order : goal.returns-then-not-in_order
unfolding sounded
returns-then-not-in_order c = yes _ _ _ (ap not (sym c.if-not-in_order.ensures)) refl

pub returns-then-not-areas_right : goal.returns-then-not-areas_right
unfolding sounded areas_right disk_right
returns-then-not-areas_right c =
    no _ _ _ (ap not (sym c.if-not-in_order.ensures)) (yes _ _ _ (ap not (sym c.if-not-areas_right.ensures)) refl)

pub roots_right-requires : goal.roots_right-requires
unfolding areas_right disk_right
roots_right-requires c = record { host_value = sym c.if-not-in_order.ensures; stage_value = sym c.if-not-areas_right.ensures }

pub returns : goal.returns
unfolding sounded areas_right disk_right
returns c =
    no _ _ _ (ap not (sym c.if-not-in_order.ensures))
    (no _ _ _ (ap not (sym c.if-not-areas_right.ensures)) (ap (sounded_at 0) c.roots_right.ensures))

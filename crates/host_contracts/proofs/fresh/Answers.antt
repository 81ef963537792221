-- `host_contracts::fresh` meets its contract: a walk down the definition. Assumes nothing.
use Rattle.lists.proofs.Kit.{◌≡◌, true, refl, sym, ap, not, ℕ, ◌<◌}
use Rattle.lists.proofs.Laws.Pick.{yes, no}
use Rattle.area.proofs.Laws.Slots.{some}
use Rattle.host.specs.Sizes.{is_size}
use Rattle.host.specs.Calls.{answered, freshed}
use Rattle.host.specs.declared.Host.{Host}
use Rattle.host.proofs.Laws.Sizes.{size-facts}
use Rattle.host_contracts.proofs.fresh.Goals as goal

-- of a size that there is, a sector has bytes
positive : (z : ℕ) → true ≡ is_size z → 0 < z
positive z e = some _ (size-facts z (sym e))

pub length_right-requires : goal.length_right-requires
length_right-requires c = positive _ c.if-not-is_size.ensures

pub length_right-requires-2 : goal.length_right-requires-2
length_right-requires-2 c = positive _ c.if-not-is_size.ensures

pub nonzero_div-disk : goal.nonzero_div-disk
nonzero_div-disk c = positive _ c.if-not-is_size.ensures

pub nonzero_div-stage : goal.nonzero_div-stage
nonzero_div-stage c = positive _ c.if-not-is_size.ensures

pub returns-then-not-is_size : goal.returns-then-not-is_size
unfolding freshed
returns-then-not-is_size c = yes _ _ _ (ap not (sym c.if-not-is_size.ensures)) refl

pub returns-then-not-length_right : goal.returns-then-not-length_right
unfolding freshed
returns-then-not-length_right c =
    no _ _ _ (ap not (sym c.if-not-is_size.ensures))
    (yes _ _ _ (ap not (sym c.if-not-length_right.ensures)) refl)

pub returns-then-not-length_right-2 : goal.returns-then-not-length_right-2
unfolding freshed
returns-then-not-length_right-2 c =
    no _ _ _ (ap not (sym c.if-not-is_size.ensures))
    (no _ _ _ (ap not (sym c.if-not-length_right.ensures))
    (yes _ _ _ (ap not (sym c.if-not-length_right-2.ensures)) refl))

pub returns : goal.returns
unfolding freshed
returns c =
    no _ _ _ (ap not (sym c.if-not-is_size.ensures))
    (no _ _ _ (ap not (sym c.if-not-length_right.ensures))
    (no _ _ _ (ap not (sym c.if-not-length_right-2.ensures)) (ap (answered 0) c.bare.ensures)))

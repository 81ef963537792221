-- `host::places::own_size` meets its contract. Assumes nothing.
use Rattle.lists.proofs.Kit.{refl, sym, ap, ◌∙◌, not}
use Rattle.lists.proofs.Laws.Pick.{yes, no}
use Rattle.host.specs.Places.{own_size}
use Rattle.host.proofs.places.own_size.Goals as goal
use Rattle.host.proofs.places.own_size.Goals.{else-p-via-then-p+else-not-same_id, else-p-via-else-p}

pub returns-then-not-same_id : goal.returns-then-not-same_id
unfolding own_size
returns-then-not-same_id c = yes _ _ _ (sym (yes _ _ _ c.if-p.true (sym (ap not (sym c.same_id.ensures) ∙ ap not c.if-not-same_id.true)))) refl

pub returns-else-p : goal.returns-else-p
unfolding own_size
returns-else-p c = elim c.else-p.branch [
  | else-p-via-then-p+else-not-same_id w ↦
      no _ _ _ (sym (yes _ _ _ w.if-p.true (sym (ap not (sym w.same_id.ensures) ∙ ap not w.if-not-same_id.false)))) refl
  | else-p-via-else-p w ↦ no _ _ _ (sym (no _ _ _ w.if-p.false refl)) refl
]

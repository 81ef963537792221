-- `host::places::replacing` meets its contract. Assumes nothing.
use Rattle.lists.proofs.Kit.{refl, sym, ◌∙◌}
use Rattle.lists.proofs.Laws.Pick.{yes, no}
use Rattle.host.proofs.places.replacing.Goals as goal

pub returns-then-has_id : goal.returns-then-has_id
returns-then-has_id c = yes _ _ _ (sym c.has_id.ensures ∙ c.if-has_id.true) refl

pub returns-else-has_id : goal.returns-else-has_id
returns-else-has_id c = no _ _ _ (sym c.has_id.ensures ∙ c.if-has_id.false) refl

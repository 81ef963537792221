-- `sia::fixed_id` meets its contract: an id that is the ReadOnly word is its fixed byte string. Assumes nothing.
use Rattle.lists.proofs.Kit.{sym, ◌∙◌}
use Rattle.area.proofs.Laws.Same.{same-eq}
use Rattle.sia.proofs.fixed_id.Goals as goal

pub returns-then-is_read_only : goal.returns-then-is_read_only
returns-then-is_read_only c = sym (same-eq _ _ (sym c.is_read_only.ensures ∙ c.if-is_read_only.true))

-- std's equality of arrays is `same`. Assumes nothing.
use Rattle.lists.proofs.Kit.{◌∙◌}
use Rattle.area.proofs.Laws.Same.{pointwise-same}
use Rattle.sia.proofs.is_read_only.Goals as goal

pub returns : goal.returns
returns c = c.eq.ensures ∙ pointwise-same _ _

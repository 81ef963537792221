-- std's equality of arrays is `same`. Assumes nothing.
use Rattle.lists.proofs.Kit.{ap, ◌∙◌}
use Rattle.area.specs.Area.{same}
use Rattle.area.proofs.Laws.Same.{pointwise-same}
use Rattle.sia.proofs.Op.has_name.Goals as goal

pub returns : goal.returns
returns c = c.eq.ensures ∙ pointwise-same _ _ ∙ ap (same c.args.name) c.name.ensures

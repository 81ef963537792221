-- std's equality of slices is `same`. Assumes nothing.
use Rattle.lists.proofs.Kit.{◌∙◌}
use Rattle.area.proofs.Laws.Same.{pointwise-same}
use Rattle.area.proofs.same.Goals as goal

pub returns : goal.returns
returns c = c.eq.ensures ∙ pointwise-same c.args.a.now c.args.b.now

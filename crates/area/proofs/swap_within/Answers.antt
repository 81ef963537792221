-- `area::swap_within` meets its contract: spans that do not overlap, and those that do, each way. Assumes nothing.
use Rattle.lists.proofs.Kit.{◌∙◌, ap, arith, length}
use Rattle.area.proofs.Laws.Puts.{length-put}
use Rattle.area.proofs.Laws.Exchange.{met-below, met-above, turned-apart}
use Rattle.area.proofs.swap_within.Goals as goal

pub returns-else-n-d : goal.returns-else-n-d
returns-else-n-d c =
    met-below _ _ _ _ _ _ (omega arith) (omega arith) (omega arith) c.move_within.ensures c.swap_apart-else-n-d.ensures

pub returns-then-n-d-2 : goal.returns-then-n-d-2
returns-then-n-d-2 c = c.swap_apart-then-n-d-2.ensures ∙ turned-apart _ _ _ _ (omega arith) (omega arith)

pub returns-else-n-d-2 : goal.returns-else-n-d-2
returns-else-n-d-2 c =
    let moved = c.move_within-else-n-d-2.ensures in
    met-above _ _ _ _ _ _ (omega arith) (omega arith) (omega arith) moved c.swap_apart-else-n-d-2.ensures (ap length moved ∙ length-put _ _ _)

-- `walks::count` meets its contract: the hashes from the least depth that holds the leaves are those from depth 64. Assumes nothing.
use Rattle.lists.proofs.Kit.{arith}
use Rattle.tree.proofs.Laws.Counts.{count-deep}
use Rattle.tree.proofs.Laws.Levels.{walked-deep}
use Rattle.tree.proofs.Laws.Answered.{from-top}
use Rattle.tree.proofs.walks.count.Goals as goal

pub hashes-requires : goal.hashes-requires
hashes-requires c = walked-deep (from-top _ c.before.requires (omega arith)) c.depth.ensures

pub returns : goal.returns
returns c = count-deep _ _ _ _ c.before.depth.ensures c.hashes.ensures

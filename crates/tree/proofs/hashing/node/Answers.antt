-- `hashing::node` meets its contract: left and right are laid behind byte 1. Assumes nothing.
use Rattle.lists.proofs.Kit.{rules}
use Rattle.tree.proofs.Laws.Messages.{node-hashed}
use Rattle.tree.proofs.hashing.node.Goals as goal

pub returns : goal.returns
returns c = node-hashed _ _ (search rules) (search rules) c.hash.ensures c.copy_between-2.ensures c.copy_between.ensures

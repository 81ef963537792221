-- `hashing::segment` meets its contract: the 64 bytes are laid behind byte 0. Assumes nothing.
use Rattle.lists.proofs.Kit.{arith}
use Rattle.tree.specs.Tree.{leaf_of}
use Rattle.tree.proofs.Laws.Messages.{leaf-hashed}
use Rattle.tree.proofs.hashing.segment.Goals as goal

pub returns : goal.returns
unfolding leaf_of
returns c = leaf-hashed _ _ (omega arith) c.hash.ensures c.copy_between.ensures

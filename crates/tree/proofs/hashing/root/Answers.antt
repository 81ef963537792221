-- `hashing::root` meets its contract: root i stands at 32 * i. Assumes nothing.
use Rattle.tree.specs.Tree.{leaf_of}
use Rattle.tree.proofs.hashing.root.Goals as goal

pub returns : goal.returns
unfolding leaf_of
returns c = c.read.ensures

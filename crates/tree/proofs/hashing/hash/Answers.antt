-- `hashing::hash` meets its contract: what `digest` leaves in 32 bytes, with no key, and it is not refused. Assumes nothing.
use Rattle.lists.proofs.Kit.{arith}
use Rattle.blake2b.proofs.Answered.{done}
use Rattle.tree.proofs.Laws.Messages.{hashed}
use Rattle.tree.proofs.hashing.hash.Goals as goal

pub unwrap-requires : goal.unwrap-requires
unwrap-requires c = done _ _ _ _ c.digest.ensures (omega arith) (omega arith) (omega arith)

pub returns : goal.returns
returns c = hashed _ c.digest.ensures

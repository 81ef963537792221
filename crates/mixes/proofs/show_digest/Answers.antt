-- A digest of 32 bytes with no key is not refused. Assumes nothing.
use Rattle.std.proofs.Common.{arith}
use Rattle.blake2b.proofs.Answered.{done}
use Rattle.mixes.proofs.show_digest.Goals as goal

pub unwrap-requires : goal.unwrap-requires
unwrap-requires g c = done _ _ _ _ c.digest.ensures (omega arith) (omega arith) (omega arith)

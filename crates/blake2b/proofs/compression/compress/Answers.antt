-- `blake2b::compression::compress` meets its contract: the parts of F, put together. Assumes nothing.
use Rattle.blake2b.proofs.Laws.Steps.{whole}
use Rattle.blake2b.proofs.compression.compress.Goals as goal

pub returns : goal.returns
returns c = whole _ _ _ _ c.local-v.ensures c.rounds.ensures c.folded.ensures

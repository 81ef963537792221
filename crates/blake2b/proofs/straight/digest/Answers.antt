-- `blake2b::straight::digest` meets its contract: the bytes of the state at the end, as many as the area has. Assumes nothing.
use Rattle.lists.proofs.Kit.{◌∙◌, take}
use Rattle.blake2b.specs.Blake2b.{bytes}
use Rattle.blake2b.proofs.straight.digest.Goals as goal

pub returns : goal.returns
returns c = c.write.ensures ∙ (λ i. take (c.requires.out_len i) (bytes (c.state.ensures i)))

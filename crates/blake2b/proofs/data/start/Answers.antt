-- `blake2b::data::start` meets its contract: the parameter block is joined to the first word. Assumes nothing.
use Rattle.lists.proofs.Kit.{refl}
use Rattle.blake2b.specs.Blake2b.{start}
use Rattle.blake2b.proofs.data.start.Goals as goal

pub returns : goal.returns
unfolding start
returns c = refl

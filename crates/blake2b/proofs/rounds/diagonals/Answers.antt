-- `blake2b::rounds::diagonals` meets its contract: four mixings, one after the other. Assumes nothing.
use Rattle.blake2b.proofs.rounds.diagonals.Goals as goal

pub returns : goal.returns
returns c = cc

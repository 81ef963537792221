-- `blake2b::rounds::columns` meets its contract: four mixings, one after the other. Assumes nothing.
use Rattle.blake2b.proofs.rounds.columns.Goals as goal

pub returns : goal.returns
returns c = cc

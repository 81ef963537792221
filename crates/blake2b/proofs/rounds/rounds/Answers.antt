-- `blake2b::rounds::rounds` meets its contract: twelve rounds, one after the other. Assumes nothing.
use Rattle.blake2b.proofs.Laws.Steps.{twelve}
use Rattle.blake2b.proofs.rounds.rounds.Goals as goal

pub returns : goal.returns
returns g c =
    twelve _ _
    c.columns.ensures c.diagonals.ensures
    c.columns-2.ensures c.diagonals-2.ensures
    c.columns-3.ensures c.diagonals-3.ensures
    c.columns-4.ensures c.diagonals-4.ensures
    c.columns-5.ensures c.diagonals-5.ensures
    c.columns-6.ensures c.diagonals-6.ensures
    c.columns-7.ensures c.diagonals-7.ensures
    c.columns-8.ensures c.diagonals-8.ensures
    c.columns-9.ensures c.diagonals-9.ensures
    c.columns-10.ensures c.diagonals-10.ensures
    c.columns-11.ensures c.diagonals-11.ensures
    c.columns-12.ensures c.diagonals-12.ensures

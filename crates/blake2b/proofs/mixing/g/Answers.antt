-- `blake2b::mixing::g` meets its contract: the eight steps of G, one after the other. Assumes nothing.
use Rattle.blake2b.proofs.Laws.Steps.{mixed, sum3-is, sum2-is, turn-is}
use Rattle.blake2b.proofs.mixing.g.Goals as goal

pub returns : goal.returns
returns c =
    mixed _ _ _ _ _ _ _ (sum3-is _ _ _ _ c.add3.ensures) (turn-is _ _ _ _ c.rotr.ensures) (sum2-is _ _ _) (turn-is _ _ _ _ c.rotr-2.ensures)
    (sum3-is _ _ _ _ c.add3-2.ensures) (turn-is _ _ _ _ c.rotr-3.ensures) (sum2-is _ _ _) (turn-is _ _ _ _ c.rotr-4.ensures)

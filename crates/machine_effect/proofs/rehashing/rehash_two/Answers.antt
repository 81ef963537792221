-- `machine_effect::rehashing::rehash_two` meets its contract: the first position, then the second where it is another. Assumes nothing.
use Rattle.machine_effect.proofs.Laws.KeptRoots.{two-one, two-both}
use Rattle.machine_effect.proofs.rehashing.rehash_two.Goals as goal

pub returns-then-one-two : goal.returns-then-one-two
returns-then-one-two c = two-both _ _ _ _ _ c.if-one-two.true c.rehash_one.ensures c.rehash_one-then-one-two.ensures

pub returns-else-one-two : goal.returns-else-one-two
returns-else-one-two c = two-one _ _ _ _ _ c.if-one-two.false c.rehash_one.ensures

-- `blake2b::straight::block` meets its contract: each word is read, or is 0. Assumes nothing.
use Rattle.lists.proofs.Kit.{arith}
use Rattle.blake2b.proofs.Laws.Straight.{block_words}
use Rattle.blake2b.proofs.straight.block.Goals as goal

pub returns : goal.returns
returns c =
    let at_7 = c.before.before.before in
    let at-4 = at_7.before.before.before in
    let at_1 = at-4.before.before.before in
    block_words _ (omega arith) at_1.load.ensures at-4.before.before.load-2.ensures at-4.before.load-3.ensures at-4.load-4.ensures
    at_7.before.before.load-5.ensures at_7.before.load-6.ensures at_7.load-7.ensures c.before.before.load-8.ensures c.from.ensures

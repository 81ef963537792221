-- `bench_input::lower` meets its contract: a number above what is kept stands whole, and is laid anew. Assumes nothing.
use Rattle.lists.proofs.Kit.{arith}
use Rattle.bench_input.proofs.Laws.Laying.{stands-whole, lowers-not, lowers}
use Rattle.bench_input.proofs.lower.Goals as goal

pub store-requires : goal.store-requires
store-requires c =
    let whole = stands-whole _ _ c.number_to-n.ensures c.if-n-most.false in
    omega arith

pub returns : goal.returns
returns c =
    lowers _ _ _ c.number_to-n.ensures c.if-n-most.false c.store.ensures

pub returns-then-n-most : goal.returns-then-n-most
returns-then-n-most c = lowers-not _ _ _ c.number_to-n.ensures c.if-n-most.true

pub overflow_sub-at : goal.overflow_sub-at
overflow_sub-at c = (stands-whole _ _ c.number_to-n.ensures c.if-n-most.false).0

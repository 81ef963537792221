-- `bench_input::Reader::feed_byte` meets its contract: the section goes on, or has ended. Assumes nothing.
use Rattle.bench_input.proofs.Laws.Laying.{goes_on, has_ended}
use Rattle.bench_input.proofs.Reader.feed_byte.Goals as goal

pub returns-then-one-gt0 : goal.returns-then-one-gt0
returns-then-one-gt0 c =
    goes_on _ _ c.laid-one.ensures c.if-one-gt0.true

pub returns : goal.returns
returns c =
    has_ended _ _ c.laid-one.ensures c.if-one-gt0.false c.next.ensures

-- `bench_input::Reader::laid` meets its contract: no room is left, the area ends, or the byte is laid. Assumes nothing.
use Rattle.lists.proofs.Kit.{arith}
use Rattle.bench_input.proofs.Laws.Laying.{lays-none, lays_one}
use Rattle.bench_input.proofs.Reader.laid.Goals as goal

pub returns-then-room-eq0 : goal.returns-then-room-eq0
returns-then-room-eq0 c = lays-none _ _ _ c.saturating_sub.ensures c.saturating_sub-2.ensures (omega (arith, c.if-room-eq0.true))

pub returns-then-all-at : goal.returns-then-all-at
returns-then-all-at c =
    lays-none _ _ _ c.saturating_sub.ensures c.saturating_sub-2.ensures (omega (arith, c.if-all-at.true))

pub returns : goal.returns
returns c =
    lays_one _ _ _ c.saturating_sub.ensures c.saturating_sub-2.ensures (omega (arith, c.if-room-eq0.false)) c.if-all-at.false

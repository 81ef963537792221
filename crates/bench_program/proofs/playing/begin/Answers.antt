-- `bench_program::playing::begin` meets its contract: a refusal of the head, or what its data leaves. Assumes nothing.
use Rattle.bench_program.proofs.Laws.Plays.{begun-refused, begun-goes}
use Rattle.bench_program.proofs.playing.begin.Goals as goal

pub returns-in-Err : goal.returns-in-Err
returns-in-Err c = let a = c.args in begun-refused a.host a.prices a.budget _ _ _ _ _ _ c.in-Err.why c.in-Err.ensures c.refused.ensures

pub returns-in-Ok : goal.returns-in-Ok
returns-in-Ok c = let a = c.args in begun-goes a.host a.prices a.budget _ _ _ _ _ _ c.in-Ok.opened c.in-Ok.ensures c.give.ensures

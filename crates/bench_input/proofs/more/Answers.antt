-- `bench_input::more` meets its contract, test by test. Assumes nothing.
use Rattle.lists.proofs.Kit.{ap, not, arith, lt-ltb, le-ltb}
use Rattle.lists.proofs.Laws.Pick.{yes, no}
use Rattle.bench_input.specs.Gathered.{reads_on}
use Rattle.bench_input.proofs.more.Goals as goal

pub returns-then-follows : goal.returns-then-follows
unfolding reads_on
returns-then-follows c = yes _ _ _ (lt-ltb 0 c.args.turn.left (omega arith)) (yes _ _ _ c.if-follows.true c.if-follows.true)

pub returns-else-follows : goal.returns-else-follows
unfolding reads_on
returns-else-follows c =
    yes _ _ _ (lt-ltb 0 c.args.turn.left (omega arith)) (no _ _ _ c.if-follows.false (ap not c.full.ensures))

pub returns-else-turn-gt0 : goal.returns-else-turn-gt0
unfolding reads_on
returns-else-turn-gt0 c = no _ _ _ (le-ltb 0 c.args.turn.left (omega arith)) (le-ltb 0 c.args.turn.left (omega arith))

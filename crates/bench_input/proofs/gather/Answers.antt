-- `bench_input::gather` meets its contract: pieces that came lead from a new reader to the last one. Assumes nothing.
use Rattle.lists.proofs.Kit.{sym, ◌∙◌, ltb-true, rules}
use Rattle.lists.proofs.Laws.Pick.{both_left}
use Rattle.bench_input.specs.Gathered.{reads_on}
use Rattle.bench_input.proofs.Laws.Gathering.{came-none, came-more, gathered, gathered_none}
use Rattle.bench_input.proofs.gather.Goals as goal

pub returns-then-all-ne-KEPT : goal.returns-then-all-ne-KEPT
returns-then-all-ne-KEPT g c = gathered_none _

pub loop-source-init : goal.loop-source-init
loop-source-init g c = (c.if-all-ne-KEPT.false, (came-none _ c.new.ensures, search rules))

pub read_once-requires : goal.read_once-requires
unfolding reads_on
read_once-requires g c = ltb-true 0 _ (both_left _ _ (sym c.more.ensures ∙ c.loop-source-test.true))

pub loop-source-preserved : goal.loop-source-preserved
loop-source-preserved g c =
    (c.loop-source.invariant.0, (came-more c.loop-source.invariant.1.0 c.in_ok-turn.ensures.feeds, search rules))

pub returns : goal.returns
returns g c = gathered c.loop-source.invariant.0 c.loop-source.invariant.1.0 c.held.ensures

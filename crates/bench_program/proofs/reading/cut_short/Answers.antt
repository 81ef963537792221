-- `bench_program::reading::cut_short` meets its contract. Assumes nothing.
use Rattle.bench_program.specs.Input.{number_at}
use Rattle.bench_program.proofs.Laws.Input.{ids_short, number_short, head-short}
use Rattle.bench_program.proofs.reading.cut_short.Goals as goal

pub returns-then-behind-lt8 : goal.returns-then-behind-lt8
unfolding number_at
returns-then-behind-lt8 c =
    number_short _ c.requires c.load-count.ensures c.if-behind-lt8.true

pub returns : goal.returns
unfolding number_at
returns c =
    head-short _ c.requires c.load-count.ensures c.if-behind-lt8.false c.load-n.ensures

pub returns-then-left-count : goal.returns-then-left-count
unfolding number_at
returns-then-left-count c = ids_short _ c.requires c.load-count.ensures c.if-left-count.true

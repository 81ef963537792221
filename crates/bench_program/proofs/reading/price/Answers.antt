-- `bench_program::reading::price` meets its contract: it is one of those that were looked at. Assumes nothing.
use Rattle.lists.proofs.Kit.{arith}
use Rattle.bench_program.specs.Input.{number_at}
use Rattle.bench_program.proofs.Laws.Input.{right, price-within}
use Rattle.bench_program.proofs.reading.price.Goals as goal

pub load-requires : goal.load-requires
unfolding number_at
load-requires c = omega (arith, right _ c.requires.all_value)

pub overflow_cast-result : goal.overflow_cast-result
unfolding number_at
overflow_cast-result c = omega (arith, price-within _ _ (right _ c.requires.all_value).prices c.requires.i_bound, c.load.ensures)

pub returns : goal.returns
unfolding number_at
returns c = c.load.ensures

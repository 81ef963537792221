-- `bench_program::reading::ids_end` meets its contract. Assumes nothing.
use Rattle.lists.proofs.Kit.{ap, ℕ, ◌+◌, ◌*◌, arith}
use Rattle.bench_program.specs.Input.{number_at, ids_end}
use Rattle.bench_program.proofs.Laws.Input.{right}
use Rattle.bench_program.proofs.reading.ids_end.Goals as goal

pub load-requires : goal.load-requires
unfolding number_at ids_end
load-requires c = (right _ c.requires).front

pub overflow_mul-result : goal.overflow_mul-result
unfolding number_at ids_end
overflow_mul-result c = omega (arith, (right _ c.requires).ids, c.load.ensures)

pub overflow_add-result : goal.overflow_add-result
unfolding number_at ids_end
overflow_add-result c = omega (arith, (right _ c.requires).ids, c.load.ensures)

pub returns : goal.returns
unfolding number_at ids_end
returns c = ap (λ (n : ℕ). 80 + n * 32) c.load.ensures

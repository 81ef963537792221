-- `bench_program::reading::head_end` meets its contract. Assumes nothing.
use Rattle.lists.proofs.Kit.{◌≡◌, ap, ap₂, ◌∙◌, ℕ, ◌+◌, arith}
use Rattle.bench_program.specs.Input.{number_at, ids_end, head_end}
use Rattle.bench_program.proofs.Laws.Input.{right}
use Rattle.bench_program.proofs.reading.head_end.Goals as goal
use Rattle.bench_program.proofs.reading.head_end.Goals.{After-load-n}

-- the head's length, as it was read
counted : (c : After-load-n) → c.load-n.result ≡ number_at c.args.all.now (ids_end c.args.all.now)
unfolding number_at
counted c = c.load-n.ensures ∙ ap (number_at c.args.all.now) c.ids_end-ids.ensures

pub load-n-requires : goal.load-n-requires
unfolding head_end
load-n-requires c = omega (arith, (right _ c.requires).ids, c.ids_end-ids.ensures)

pub overflow_add-result : goal.overflow_add-result
unfolding head_end
overflow_add-result c = omega (arith, (right _ c.requires).ids, c.ids_end-ids.ensures)

pub overflow_add-result-2 : goal.overflow_add-result-2
unfolding head_end
overflow_add-result-2 c = omega (arith, (right _ c.requires).head, c.ids_end-ids.ensures, counted c)

pub returns : goal.returns
unfolding head_end
returns c = ap₂ (λ (at n : ℕ). at + 8 + n) c.ids_end-ids.ensures (counted c)

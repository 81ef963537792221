-- `machine_plan::charge::cost` meets its contract. Assumes nothing.
use Rattle.lists.proofs.Kit.{ap, ap₂, ◌∙◌, ℕ, ◌+◌, ◌*◌, arith}
use Rattle.machine_rules.specs.Plan.{cost, own}
use Rattle.machine_rules.specs.Kinds.{time}
use Rattle.machine_plan.proofs.Laws.Costs.{timed, charged-memory}
use Rattle.machine_plan.proofs.charge.cost.Goals as goal

pub overflow_mul-result : goal.overflow_mul-result
overflow_mul-result c =
    omega (arith, timed (1048576 + c.args.declared) c.time.result (omega arith) c.time.ensures.1)

pub overflow_mul-result-2 : goal.overflow_mul-result-2
overflow_mul-result-2 c =
    omega (
      arith,
      charged-memory ((1048576 + c.args.declared) * c.time.result) c.from.result
          (timed (1048576 + c.args.declared) c.time.result (omega arith) c.time.ensures.1) (omega arith),
    )

pub overflow_add-result-2 : goal.overflow_add-result-2
overflow_add-result-2 c =
    omega (
      arith,
      charged-memory ((1048576 + c.args.declared) * c.time.result) c.from.result
          (timed (1048576 + c.args.declared) c.time.result (omega arith) c.time.ensures.1) (omega arith),
      c.own.ensures.1,
    )

pub returns : goal.returns
unfolding cost
returns c =
    ap₂ (λ (t o : ℕ). (1048576 + c.args.declared) * t * c.from.result + o) c.time.ensures.0 c.own.ensures.0
    ∙ ap (λ (m : ℕ). (1048576 + c.args.declared) * time c.args.op * m + own c.args.prices c.args.op c.args.n) c.from.ensures

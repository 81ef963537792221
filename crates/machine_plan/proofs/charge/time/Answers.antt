-- `machine_plan::charge::time` meets its contract: no time passes 30. Assumes nothing.
use Rattle.lists.proofs.Kit.{ap, ◌≤◌, arith}
use Rattle.machine_rules.specs.Kinds.{kind, time}
use Rattle.machine_rules.specs.declared.Kind.{Kind}
use Rattle.sia.specs.declared.Op.{Op}
use Rattle.sia.specs.declared.Op.TheVariants.{Read, ReadSector, Write, Copy, Swap, Truncate, Unknown}
use Rattle.machine_plan.proofs.charge.time.Goals as goal

most : (op : Op) → time op ≤ 30
unfolding kind
most Read = omega arith
most ReadSector = omega arith
most Write = omega arith
most Copy = omega arith
most Swap = omega arith
most Truncate = omega arith
most Unknown = omega arith

pub returns : goal.returns
returns c =
    let e = ap (λ (k : Kind). k.time) c.kind.ensures in
    (e, omega (arith, e, most c.args.op))

-- `machine_plan::spans::bad_spans` meets its contract, arm by arm. Assumes nothing.
use Rattle.lists.proofs.Kit.{◌≡◌, Bool, sym, ap, ◌∙◌, mul-le-mul, arith}
use Rattle.machine_rules.specs.Plan.{bad_spans}
use Rattle.sia.specs.declared.Op.{Op}
use Rattle.sia.specs.declared.Op.TheVariants.{Read, ReadSector, Copy, Swap}
use mathlib.Core.Logic.{⊎_elim}
use Rattle.machine_plan.proofs.spans.bad_spans.Goals as goal
use Rattle.machine_plan.proofs.spans.bad_spans.Goals.{Start}

-- by the operation
abbrev bad-at : Start → Op → Bool
bad-at s o = bad_spans s.args.z s.args.size s.args.seen o s.args.args

-- in an arm the operation is known
arm : (s : Start) {r : Bool} {o : Op} → s.args.op ≡ o → r ≡ bad-at s o → r ≡ bad-at s s.args.op
arm s told e = e ∙ sym (ap (bad-at s) told)

pub overflow_mul-seen : goal.overflow_mul-seen
unfolding bad_spans
overflow_mul-seen c = omega (arith, mul-le-mul c.requires.seen_bound c.requires.size.most)

pub returns-in-Read : goal.returns-in-Read
unfolding bad_spans
returns-in-Read c =
    let s = (goal.at.returns-in-Read c).Start in
    ⊎_elim (λ (e : c.args.op ≡ Read). arm s e c.bad_span.ensures) (λ (e : c.args.op ≡ ReadSector). arm s e c.bad_span.ensures)
    c.in-Read.is

pub returns-in-Write : goal.returns-in-Write
unfolding bad_spans
returns-in-Write c = arm (goal.at.returns-in-Write c).Start c.in-Write.is c.bad_span-in-Write.ensures

pub returns-in-Copy : goal.returns-in-Copy
unfolding bad_spans
returns-in-Copy c =
    let s = (goal.at.returns-in-Copy c).Start in
    ⊎_elim (λ (e : c.args.op ≡ Copy). arm s e c.bad_pair.ensures) (λ (e : c.args.op ≡ Swap). arm s e c.bad_pair.ensures)
    c.in-Copy.is

pub returns-in-Truncate : goal.returns-in-Truncate
unfolding bad_spans
returns-in-Truncate c = arm (goal.at.returns-in-Truncate c).Start c.in-Truncate.is c.bad_size.ensures

pub returns-in-Unknown : goal.returns-in-Unknown
unfolding bad_spans
returns-in-Unknown c = sym (ap (bad-at (goal.at.returns-in-Unknown c).Start) c.in-Unknown.is)

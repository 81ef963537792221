-- `sia_write::head_length` meets its contract. Assumes nothing.
use Rattle.lists.proofs.Kit.{sym, ap, ◌∙◌, ℕ, ◌+◌, arith, length-take-le}
use Rattle.sia.proofs.Laws.Known.{known-head}
use Rattle.sia.proofs.Laws.Limits.{within-is}
use Rattle.sia.proofs.Laws.Joined.{length-head}
use Rattle.sia_write.proofs.head_length.Goals as goal

pub shared_ref_as_front-instructions_length : goal.shared_ref_as_front-instructions_length
shared_ref_as_front-instructions_length c =
    let w = within-is c.args.head c.requires in
    let long = known-head c.args.head _ c.well_formed.0 in
    omega (arith, w.count, long.1)

pub instructions_length-requires : goal.instructions_length-requires
instructions_length-requires c =
    let w = within-is c.args.head c.requires in
    let long = known-head c.args.head _ c.well_formed.0 in
    record {
      length_bound = omega (arith, w.count, long.1, length-take-le c.args.head.count c.args.head.instructions (omega (arith, w.count, long.1)));
      list_value = w.few;
    }

pub overflow_add-result : goal.overflow_add-result
overflow_add-result c =
    let w = within-is c.args.head c.requires in
    let long = known-head c.args.head _ c.well_formed.0 in
    omega (
      arith,
      w.count,
      c.instructions_length.ensures.1,
      length-take-le c.args.head.count c.args.head.instructions (omega (arith, w.count, long.1)),
    )

pub returns : goal.returns
returns c =
    let long = known-head c.args.head _ c.well_formed.0 in
    ap (λ (n : ℕ). 48 + n) c.instructions_length.ensures.0 ∙ sym (length-head c.args.head long.0)

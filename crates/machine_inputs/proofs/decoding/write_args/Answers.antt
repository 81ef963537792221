-- `machine_inputs::decoding::write_args` meets its contract: the two inputs in turn. Assumes nothing.
use Rattle.lists.proofs.Kit.{sym, ap, ◌∙◌, arith, get_or}
use Rattle.lists.proofs.Laws.Pick.{both-not-left, both-not-right}
use Rattle.sia.specs.Empty.{no_operand}
use Rattle.area.proofs.Laws.Parts.{length_part}
use Rattle.sia.specs.Number.{number}
use Rattle.machine_rules.specs.Inputs.{well_formed}
use Rattle.machine_inputs.specs.Given.{two, data_of, input_at}
use Rattle.machine_inputs.proofs.Laws.Decoders.{number-refused, data-refused, data-told, data-long}
use Rattle.machine_inputs.proofs.Laws.Given.{write-accepted, refused, ends-within}
use Rattle.sia.specs.declared.Op.TheVariants.{Write}
use Rattle.machine_inputs.proofs.decoding.write_args.Goals as goal

pub part_of-requires : goal.part_of-requires
part_of-requires c = ends-within _ c.args.list 2 0 c.well_formed.1.0.1.0.1 c.requires (omega arith) (omega arith)

pub part_of-requires-2 : goal.part_of-requires-2
part_of-requires-2 c = ends-within _ c.args.list 2 1 c.well_formed.1.0.1.0.1 c.requires (omega arith) (omega arith)

-- ---- the first that is refused, or both
pub returns-in_err-first : goal.returns-in_err-first
unfolding well_formed two
returns-in_err-first c =
    let none = sym (c.in_err-first.ensures ∙ ap number c.part_of.ensures) in
    rw c.from_residual.ensures (refused Write _ _ (both-not-left _ _ (number-refused _ none)))

pub returns-in_err-len : goal.returns-in_err-len
unfolding well_formed two
returns-in_err-len c =
    let none = sym (c.in_err-len.ensures ∙ ap data_of c.part_of-2.ensures) in
    rw c.from_residual-in_err-len.ensures (refused Write _ _ (both-not-right _ _ (data-refused _ none)))

pub overflow_add-from : goal.overflow_add-from
overflow_add-from c =
    let o = get_or c.args.list 1 no_operand in
    let within = ends-within _ c.args.list 2 1 c.well_formed.1.0.1.0.1 c.requires (omega arith) (omega arith) in
    let told = sym (c.in_ok-len.ensures ∙ ap data_of c.part_of-2.ensures) in
    let eight = data-long _ (data-told (input_at c.args.input.now c.args.list 1) _ told) in
    omega (arith, c.well_formed.0.0, within, length_part c.args.input.now o.offset o.len within, eight)

pub returns : goal.returns
returns c =
    write-accepted c.args.input.now c.args.list _ _
    (sym (c.in_ok-first.ensures ∙ ap number c.part_of.ensures))
    (sym (c.in_ok-len.ensures ∙ ap data_of c.part_of-2.ensures))

-- `machine_inputs::decoding::size_args` meets its contract: a number, or none. Assumes nothing.
use Rattle.lists.proofs.Kit.{sym, ap, ◌∙◌, arith}
use Rattle.sia.specs.Number.{number}
use Rattle.machine_rules.specs.Inputs.{well_formed}
use Rattle.machine_inputs.specs.Given.{one}
use Rattle.machine_inputs.proofs.Laws.Decoders.{number-refused}
use Rattle.machine_inputs.proofs.Laws.Given.{size-accepted, refused, ends-within}
use Rattle.sia.specs.declared.Op.TheVariants.{Truncate}
use Rattle.machine_inputs.proofs.decoding.size_args.Goals as goal

pub part_of-requires : goal.part_of-requires
part_of-requires c = ends-within _ c.args.list 1 0 c.well_formed.1.0.1.0.1 c.requires (omega arith) (omega arith)

pub returns-in_err-first : goal.returns-in_err-first
unfolding well_formed one
returns-in_err-first c =
    let none = sym (c.in_err-first.ensures ∙ ap number c.part_of.ensures) in
    rw c.from_residual.ensures (refused Truncate _ 0 (number-refused _ none))

pub returns : goal.returns
returns c = size-accepted c.args.input.now c.args.list _ (sym (c.in_ok-first.ensures ∙ ap number c.part_of.ensures))

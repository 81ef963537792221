-- `machine_inputs::decoding::span_args` meets its contract: the three inputs in turn. Assumes nothing.
use Rattle.lists.proofs.Kit.{sym, ap, ◌∙◌, arith}
use Rattle.lists.proofs.Laws.Pick.{both-not-left, both-not-right}
use Rattle.sia.specs.Number.{number}
use Rattle.machine_rules.specs.Inputs.{well_formed}
use Rattle.machine_inputs.specs.Given.{three}
use Rattle.machine_inputs.proofs.Laws.Decoders.{number-refused}
use Rattle.machine_inputs.proofs.Laws.Given.{span-accepted, refused, ends-within}
use Rattle.sia.specs.declared.Op.TheVariants.{Copy}
use Rattle.machine_inputs.proofs.decoding.span_args.Goals as goal

pub part_of-requires : goal.part_of-requires
part_of-requires c = ends-within _ c.args.list 3 0 c.well_formed.1.0.1.0.1 c.requires (omega arith) (omega arith)

pub part_of-requires-2 : goal.part_of-requires-2
part_of-requires-2 c = ends-within _ c.args.list 3 1 c.well_formed.1.0.1.0.1 c.requires (omega arith) (omega arith)

pub part_of-requires-3 : goal.part_of-requires-3
part_of-requires-3 c = ends-within _ c.args.list 3 2 c.well_formed.1.0.1.0.1 c.requires (omega arith) (omega arith)

-- ---- the first that is no number, or all three
pub returns-in_err-first : goal.returns-in_err-first
unfolding well_formed three
returns-in_err-first c =
    let none = sym (c.in_err-first.ensures ∙ ap number c.part_of.ensures) in
    rw c.from_residual.ensures (refused Copy _ 0 (both-not-left _ _ (number-refused _ none)))

pub returns-in_err-second : goal.returns-in_err-second
unfolding well_formed three
returns-in_err-second c =
    let none = sym (c.in_err-second.ensures ∙ ap number c.part_of-2.ensures) in
    rw c.from_residual-in_err-second.ensures (refused Copy _ 0 (both-not-right _ _ (both-not-left _ _ (number-refused _ none))))

pub returns-in_err-len : goal.returns-in_err-len
unfolding well_formed three
returns-in_err-len c =
    let none = sym (c.in_err-len.ensures ∙ ap number c.part_of-3.ensures) in
    rw c.from_residual-in_err-len.ensures (refused Copy _ 0 (both-not-right _ _ (both-not-right _ _ (number-refused _ none))))

pub returns : goal.returns
returns c =
    span-accepted c.args.input.now c.args.list _ _ _
    (sym (c.in_ok-first.ensures ∙ ap number c.part_of.ensures))
    (sym (c.in_ok-second.ensures ∙ ap number c.part_of-2.ensures))
    (sym (c.in_ok-len.ensures ∙ ap number c.part_of-3.ensures))

-- `machine_inputs::decoding::read_args` meets its contract: the three inputs in turn. Assumes nothing.
use Rattle.lists.proofs.Kit.{refl, sym, ap, ◌∙◌, arith}
use Rattle.lists.proofs.Laws.Pick.{both-not-left, both-not-right}
use Rattle.sia.specs.Number.{number}
use Rattle.machine_rules.specs.Inputs.{well_formed}
use Rattle.machine_inputs.specs.Given.{three, key_of}
use Rattle.machine_inputs.proofs.Laws.Decoders.{key-told, number-refused}
use Rattle.machine_inputs.proofs.Laws.Given.{read-accepted, refused, ends-within}
use Rattle.sia.specs.declared.Op.TheVariants.{Read}
use Rattle.machine_inputs.proofs.decoding.read_args.Goals as goal

pub part_of-requires : goal.part_of-requires
part_of-requires c = ends-within _ c.args.list 3 0 c.well_formed.1.0.1.0.1 c.requires (omega arith) (omega arith)

pub part_of-requires-2 : goal.part_of-requires-2
part_of-requires-2 c = ends-within _ c.args.list 3 1 c.well_formed.1.0.1.0.1 c.requires (omega arith) (omega arith)

pub part_of-requires-3 : goal.part_of-requires-3
part_of-requires-3 c = ends-within _ c.args.list 3 2 c.well_formed.1.0.1.0.1 c.requires (omega arith) (omega arith)

-- ---- the first that is not what it is to be, or all three
pub returns-in_err-key : goal.returns-in_err-key
unfolding well_formed three
returns-in_err-key c =
    let none = c.in_err-key.ensures ∙ ap key_of c.part_of.ensures in
    rw c.from_residual.ensures (refused Read _ 0 (both-not-left _ _ (sym (key-told _ _ none))))

pub returns-in_err-first : goal.returns-in_err-first
unfolding well_formed three
returns-in_err-first c =
    let none = sym (c.in_err-first.ensures ∙ ap number c.part_of-2.ensures) in
    rw c.from_residual-in_err-first.ensures (refused Read _ 0 (both-not-right _ _ (both-not-left _ _ (number-refused _ none))))

pub returns-in_err-len : goal.returns-in_err-len
unfolding well_formed three
returns-in_err-len c =
    let none = sym (c.in_err-len.ensures ∙ ap number c.part_of-3.ensures) in
    rw c.from_residual-in_err-len.ensures (refused Read _ 0 (both-not-right _ _ (both-not-right _ _ (number-refused _ none))))

pub returns : goal.returns
returns c =
    read-accepted c.args.input.now c.args.list _ _ _ (c.in_ok-key.ensures ∙ ap key_of c.part_of.ensures) refl
    (sym (c.in_ok-first.ensures ∙ ap number c.part_of-2.ensures))
    (sym (c.in_ok-len.ensures ∙ ap number c.part_of-3.ensures))

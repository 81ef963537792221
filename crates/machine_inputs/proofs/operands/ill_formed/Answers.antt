-- `machine_inputs::operands::ill_formed` meets its contract: a walk down the definition. Assumes nothing.
use Rattle.lists.proofs.Kit.{sym, ap, ◌∙◌, not, eqb}
use Rattle.machine_rules.specs.Inputs.{ill_formed}
use Rattle.machine_rules.specs.Kinds.{kind}
use Rattle.machine_rules.specs.declared.Kind.{Kind}
use Rattle.machine_inputs.proofs.Laws.Or.{or-left, or-right}
use Rattle.machine_inputs.proofs.operands.ill_formed.Goals as goal

-- the table's row, in the definition's words
pub returns-then-not-kind : goal.returns-then-not-kind
unfolding ill_formed
returns-then-not-kind c =
    let known = ap (λ (k : Kind). not k.known) (c.kind-kind.ensures ∙ ap kind c.op_of.ensures) in
    known ∙ or-left _ _ (sym known ∙ c.if-not-kind.true)

pub returns-else-not-kind : goal.returns-else-not-kind
unfolding ill_formed
returns-else-not-kind c =
    let row = c.kind-kind.ensures ∙ ap kind c.op_of.ensures in
    ap (λ (k : Kind). not (eqb c.args.i.count k.operands)) row
    ∙ or-right _ _ (sym (ap (λ (k : Kind). not k.known) row) ∙ c.if-not-kind.false)

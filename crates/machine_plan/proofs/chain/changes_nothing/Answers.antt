-- `machine_plan::chain::changes_nothing` meets its contract. Assumes nothing.
use Rattle.lists.proofs.Kit.{sym, ◌∙◌, ap}
use Rattle.machine_rules.specs.declared.Kind.{Kind}
use Rattle.machine_inputs.proofs.Laws.Or.{and-left, and-right}
use Rattle.machine_plan.proofs.chain.changes_nothing.Goals as goal

pub returns-then-kind : goal.returns-then-kind
returns-then-kind c =
    c.is_read_only.ensures ∙ and-right _ _ (ap (λ (k : Kind). k.changes) (sym c.kind.ensures) ∙ c.if-kind.true)

pub returns-else-kind : goal.returns-else-kind
returns-else-kind c =
    let changes = ap (λ (k : Kind). k.changes) c.kind.ensures in
    changes ∙ and-left _ _ (sym changes ∙ c.if-kind.false)

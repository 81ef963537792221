-- `machine_plan::spans::bad_proof` meets its contract: a walk down the definition. Assumes nothing.
use Rattle.lists.proofs.Kit.{sym, ap, ◌∙◌, not}
use Rattle.lists.proofs.Laws.Pick.{never}
use Rattle.machine_rules.specs.Plan.{bad_proof}
use Rattle.machine_rules.specs.declared.Kind.{Kind}
use Rattle.machine_inputs.proofs.Laws.Or.{or-left, or-right}
use Rattle.machine_plan.proofs.spans.bad_proof.Goals as goal
use Rattle.machine_plan.proofs.spans.bad_proof.Goals.{then-not-kind, else-not-kind}

pub returns-then-args-ne0 : goal.returns-then-args-ne0
unfolding bad_proof
returns-then-args-ne0 c =
    let reads = ap (λ (k : Kind). not k.reads) c.kind.ensures in
    elim c.if-not-kind.branch [
      | then-not-kind w ↦ w.value-is ∙ reads ∙ or-left _ _ (sym reads ∙ w.if-not-kind.true)
      | else-not-kind w ↦
          w.value-is ∙ or-left _ _ (sym w.value-is ∙ c.if-args-ne0.true) ∙ or-right _ _ (sym reads ∙ w.if-not-kind.false)
    ]

pub returns-else-args-ne0 : goal.returns-else-args-ne0
unfolding bad_proof
returns-else-args-ne0 c =
    let reads = ap (λ (k : Kind). not k.reads) c.kind.ensures in
    elim c.if-not-kind.branch [
      | then-not-kind w ↦ never (sym (w.value-is ∙ w.if-not-kind.true) ∙ c.if-args-ne0.false)
      | else-not-kind w ↦
          or-right _ _ (sym w.value-is ∙ c.if-args-ne0.false) ∙ or-right _ _ (sym reads ∙ w.if-not-kind.false)
    ]

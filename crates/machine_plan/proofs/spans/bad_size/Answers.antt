-- `machine_plan::spans::bad_size` meets its contract: a walk down the definition. Assumes nothing.
use Rattle.lists.proofs.Kit.{sym, ap, ◌∙◌, not, eq-eqb, ne_eqb}
use Rattle.lists.proofs.Laws.Pick.{never}
use Rattle.machine_rules.specs.Plan.{bad_size}
use Rattle.machine_inputs.proofs.Laws.Or.{or-left, or-right}
use Rattle.machine_plan.proofs.spans.bad_size.Goals as goal
use Rattle.machine_plan.proofs.spans.bad_size.Goals.{then-new-z-ne0, else-new-z-ne0}

pub returns-then-far_above : goal.returns-then-far_above
unfolding bad_size
returns-then-far_above c =
    elim c.if-new-z-ne0.branch [
      | then-new-z-ne0 w ↦ w.value-is ∙ or-left _ _ (ap not (ne_eqb _ _ w.if-new-z-ne0.true))
      | else-new-z-ne0 w ↦
          let far = w.value-is ∙ w.far_above.ensures in
          far ∙ or-left _ _ (sym far ∙ c.if-far_above.true) ∙ or-right _ _ (ap not (eq-eqb _ _ w.if-new-z-ne0.false))
    ]

pub returns-else-far_above : goal.returns-else-far_above
unfolding bad_size
returns-else-far_above c =
    elim c.if-new-z-ne0.branch [
      | then-new-z-ne0 w ↦ never (sym (w.value-is ∙ ap not (ne_eqb _ _ w.if-new-z-ne0.true)) ∙ c.if-far_above.false)
      | else-new-z-ne0 w ↦
          c.far_above-else-far_above.ensures ∙ or-right _ _ (sym (w.value-is ∙ w.far_above.ensures) ∙ c.if-far_above.false)
          ∙ or-right _ _ (ap not (eq-eqb _ _ w.if-new-z-ne0.false))
    ]

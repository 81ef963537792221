-- `machine_plan::spans::bad_span` meets its contract: a walk down the definition. Assumes nothing.
use Rattle.lists.proofs.Kit.{sym, ◌∙◌, ◌+◌, mod-le, arith, ltb-false, eq-eqb, ne_eqb}
use Rattle.lists.proofs.Laws.Pick.{never}
use Rattle.machine_rules.specs.Plan.{bad_span}
use Rattle.machine_inputs.proofs.Laws.Or.{or-left, or-right}
use Rattle.machine_plan.proofs.spans.bad_span.Goals as goal
use Rattle.machine_plan.proofs.spans.bad_span.Goals.{then-n-eq0, else-n-eq0}

pub returns-then-above : goal.returns-then-above
unfolding bad_span
returns-then-above c =
    elim c.if-n-eq0.branch [
      | then-n-eq0 w ↦ w.value-is ∙ or-left _ _ (eq-eqb _ _ w.if-n-eq0.true)
      | else-n-eq0 w ↦
          let past = w.value-is ∙ w.above.ensures in
          past ∙ or-left _ _ (sym past ∙ c.if-above.true) ∙ or-right _ _ (ne_eqb _ _ w.if-n-eq0.false)
    ]

pub returns-else-above : goal.returns-else-above
unfolding bad_span
returns-else-above c =
    elim c.if-n-eq0.branch [
      | then-n-eq0 w ↦ never (sym (w.value-is ∙ eq-eqb _ _ w.if-n-eq0.true) ∙ c.if-above.false)
      | else-n-eq0 w ↦
          or-right _ _ (sym (w.value-is ∙ w.above.ensures) ∙ c.if-above.false) ∙ or-right _ _ (ne_eqb _ _ w.if-n-eq0.false)
    ]

pub overflow_add-result : goal.overflow_add-result
overflow_add-result c =
    elim c.if-n-eq0.branch [
      | then-n-eq0 w ↦ never (sym (w.value-is ∙ eq-eqb _ _ w.if-n-eq0.true) ∙ c.if-above.false)
      | else-n-eq0 w ↦
          let within = ltb-false c.args.end (c.args.at + c.args.n) (sym (w.value-is ∙ w.above.ensures) ∙ c.if-above.false) in
          omega (arith, within, c.ranges.end, mod-le c.args.at c.args.z)
    ]

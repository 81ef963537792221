-- `machine_plan::spans::bad_pair` meets its contract. Assumes nothing.
use Rattle.lists.proofs.Kit.{sym, ◌∙◌}
use Rattle.machine_inputs.proofs.Laws.Or.{or-left, or-right}
use Rattle.machine_plan.proofs.spans.bad_pair.Goals as goal

pub returns-then-bad_span : goal.returns-then-bad_span
returns-then-bad_span c = c.bad_span.ensures ∙ or-left _ _ (sym c.bad_span.ensures ∙ c.if-bad_span.true)

pub returns-else-bad_span : goal.returns-else-bad_span
returns-else-bad_span c =
    c.bad_span-else-bad_span.ensures ∙ or-right _ _ (sym c.bad_span.ensures ∙ c.if-bad_span.false)

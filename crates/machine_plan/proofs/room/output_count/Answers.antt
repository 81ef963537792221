-- `machine_plan::room::output_count` meets its contract. Assumes nothing.
use Rattle.lists.proofs.Kit.{refl, sym, ◌∙◌, ap}
use Rattle.lists.proofs.Laws.Pick.{yes, no}
use Rattle.machine_rules.specs.Plan.{output_count}
use Rattle.machine_rules.specs.declared.Kind.{Kind}
use Rattle.machine_plan.proofs.room.output_count.Goals as goal

pub returns-then-kind : goal.returns-then-kind
unfolding output_count
returns-then-kind c = yes _ _ _ (ap (λ (k : Kind). k.reads) (sym c.kind.ensures) ∙ c.if-kind.true) refl

pub returns-else-kind : goal.returns-else-kind
unfolding output_count
returns-else-kind c = no _ _ _ (ap (λ (k : Kind). k.reads) (sym c.kind.ensures) ∙ c.if-kind.false) refl

-- `machine_plan::room::wanted_swap` meets its contract. Assumes nothing.
use Rattle.lists.proofs.Kit.{refl, ap, ap₂, ◌∙◌, List, ℕ, ◌+◌, arith, length, get_or, eqb, eq-eqb, ne_eqb}
use Rattle.lists.specs.Tests.{those}
use Rattle.lists.proofs.Laws.Pick.{yes, no}
use Rattle.host.specs.Empty.{none}
use Rattle.machine_rules.specs.Plan.{touched, wanted}
use Rattle.machine_plan.proofs.Laws.Room.{one-those, two-those}
use Rattle.machine_plan.proofs.room.wanted_swap.Goals as goal

pub returns-then-one-two : goal.returns-then-one-two
unfolding wanted touched
returns-then-one-two c =
    c.lacks.ensures.0 ∙ one-those (λ at. eqb (get_or c.args.p.staged at none) none) _
    ∙ ap (λ (l : List ℕ). length (those (λ at. eqb (get_or c.args.p.staged at none) none) l)) (yes _ _ _ (eq-eqb _ _ c.if-one-two.true) refl)

pub returns-else-one-two : goal.returns-else-one-two
unfolding wanted touched
returns-else-one-two c =
    ap₂ (λ (a b : ℕ). a + b) c.lacks-else-one-two.ensures.0 c.lacks-else-one-two-2.ensures.0 ∙ two-those (λ at. eqb (get_or c.args.p.staged at none) none) _ _
    ∙ ap (λ (l : List ℕ). length (those (λ at. eqb (get_or c.args.p.staged at none) none) l)) (no _ _ _ (ne_eqb _ _ c.if-one-two.false) refl)

pub overflow_add-result : goal.overflow_add-result
overflow_add-result c = omega (arith, c.lacks-else-one-two.ensures.1, c.lacks-else-one-two-2.ensures.1)

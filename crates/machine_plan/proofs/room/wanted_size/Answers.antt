-- `machine_plan::room::wanted_size` meets its contract. Assumes nothing.
use Rattle.lists.proofs.Kit.{refl, ap, ◌∙◌, List, ℕ, length, get_or, eqb, lt-ltb, le-ltb}
use Rattle.lists.specs.Tests.{those}
use Rattle.lists.proofs.Laws.Pick.{yes, no}
use Rattle.host.specs.Empty.{none}
use Rattle.machine_rules.specs.Plan.{touched, wanted}
use Rattle.machine_plan.proofs.Laws.Room.{none-those, one-those}
use Rattle.machine_plan.proofs.room.wanted_size.Goals as goal

pub returns-then-p-args : goal.returns-then-p-args
unfolding wanted touched
returns-then-p-args c =
    c.lacks.ensures.0 ∙ one-those (λ at. eqb (get_or c.args.p.staged at none) none) _
    ∙ ap (λ (l : List ℕ). length (those (λ at. eqb (get_or c.args.p.staged at none) none) l)) (yes _ _ _ (lt-ltb _ _ c.if-p-args.true) refl)

pub returns-else-p-args : goal.returns-else-p-args
unfolding wanted touched
returns-else-p-args c =
    none-those (λ at. eqb (get_or c.args.p.staged at none) none)
    ∙ ap (λ (l : List ℕ). length (those (λ at. eqb (get_or c.args.p.staged at none) none) l)) (no _ _ _ (le-ltb _ _ c.if-p-args.false) refl)

-- `machine_plan::room::lacks` meets its contract. Assumes nothing.
use Rattle.lists.proofs.Kit.{sym, ◌∙◌, arith, le-leb, eqb-true, eqb-false}
use Rattle.lists.proofs.Laws.Pick.{never}
use Rattle.machine_plan.proofs.Laws.Room.{past-lacks, none-lacks, has_one}
use Rattle.machine_plan.proofs.room.lacks.Goals as goal
use Rattle.machine_plan.proofs.room.lacks.Goals.{then-at-ge64, else-at-ge64}

pub returns-then-staged-at : goal.returns-then-staged-at
returns-then-staged-at c =
    let long = c.well_formed.0.1.0.1 in
    elim c.if-at-ge64.branch [
      | then-at-ge64 w ↦ (past-lacks c.args.staged long c.args.at w.if-at-ge64.true, omega arith)
      | else-at-ge64 w ↦ (
        none-lacks c.args.staged long c.args.at w.if-at-ge64.false
            (eqb-true _ _ (sym w.value-is ∙ c.if-staged-at.true)),
        omega arith,
      )
    ]

pub returns-else-staged-at : goal.returns-else-staged-at
returns-else-staged-at c =
    let long = c.well_formed.0.1.0.1 in
    elim c.if-at-ge64.branch [
      | then-at-ge64 w ↦ never (sym (w.value-is ∙ le-leb _ _ w.if-at-ge64.true) ∙ c.if-staged-at.false)
      | else-at-ge64 w ↦ (
        has_one c.args.staged long c.args.at w.if-at-ge64.false
            (eqb-false _ _ (sym w.value-is ∙ c.if-staged-at.false)),
        omega arith,
      )
    ]

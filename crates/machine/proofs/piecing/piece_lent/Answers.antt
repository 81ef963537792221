-- `machine::piecing::piece_lent` meets its contract: disk and stage, then the areas of an open program. Assumes nothing.
use Rattle.lists.proofs.Kit.{◌≡◌, refl, sym, ◌∙◌, eq-eqb, ne_eqb}
use Rattle.lists.proofs.Laws.Pick.{picks, yes, no}
use Rattle.machine_rules.specs.View.{disk_right, areas_right}
use Rattle.machine_rules.specs.Calls.{input_right, output_right, piece_lent}
use Rattle.machine.proofs.piecing.piece_lent.Goals as goal
use Rattle.machine.proofs.piecing.piece_lent.Goals.{After-areas_right}

areas : (c : After-areas_right) → let a = c.args in areas_right a.host a.disk.now a.stage.now ≡ c.areas_right.result
unfolding areas_right disk_right
areas c = sym c.areas_right.ensures

pub returns-else-areas_right : goal.returns-else-areas_right
unfolding piece_lent
returns-else-areas_right c =
    no _ _ _ (areas (goal.at.returns-else-areas_right c).After-areas_right ∙ c.if-areas_right.false) c.if-areas_right.false

pub returns-then-not-program : goal.returns-then-not-program
unfolding piece_lent
returns-then-not-program c =
    let e = c.if-not-program.true in
    yes _ _ _ (areas (goal.at.returns-then-not-program c).After-areas_right ∙ c.if-areas_right.true) (e ∙ sym (picks _ _ _ e))

pub returns-then-input-program : goal.returns-then-input-program
unfolding piece_lent input_right output_right
returns-then-input-program c =
    yes _ _ _ (areas (goal.at.returns-then-input-program c).After-areas_right ∙ c.if-areas_right.true)
    (no _ _ _ c.if-not-program.false (yes _ _ _ (eq-eqb _ _ c.if-input-program.true) refl))

pub returns-else-input-program : goal.returns-else-input-program
unfolding piece_lent input_right
returns-else-input-program c =
    let e = ne_eqb _ _ c.if-input-program.false in
    yes _ _ _ (areas (goal.at.returns-else-input-program c).After-areas_right ∙ c.if-areas_right.true)
    (no _ _ _ c.if-not-program.false (no _ _ _ e e))

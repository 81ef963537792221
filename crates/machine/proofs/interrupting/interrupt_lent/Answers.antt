-- `machine::interrupting::interrupt_lent` meets its contract: the disk, then the output area of an open program. Assumes nothing.
use Rattle.lists.proofs.Kit.{◌≡◌, refl, sym, ◌∙◌, Bool}
use Rattle.lists.specs.Pick.{both}
use Rattle.lists.proofs.Laws.Pick.{yes, no}
use Rattle.machine_rules.specs.View.{disk_right}
use Rattle.machine_rules.specs.Calls.{output_right, interrupt_lent}
use Rattle.machine.proofs.interrupting.interrupt_lent.Goals as goal
use Rattle.machine.proofs.interrupting.interrupt_lent.Goals.{After-lent, Else-not-lent}

disk : (c : After-lent) → let a = c.args in disk_right a.host a.disk.now ≡ c.lent.result
unfolding disk_right
disk c = sym c.lent.ensures

past-1 : (c : Else-not-lent) (rest : Bool) {r : Bool} → let a = c.args in r ≡ rest → r ≡ both (disk_right a.host a.disk.now) rest
past-1 c rest e = yes _ _ _ (disk (goal.at.Else-not-lent c).After-lent ∙ c.if-not-lent.false) e

pub returns-then-not-lent : goal.returns-then-not-lent
unfolding interrupt_lent output_right
returns-then-not-lent c = no _ _ _ (disk (goal.at.returns-then-not-lent c).After-lent ∙ c.if-not-lent.true) refl

pub returns-then-not-program : goal.returns-then-not-program
unfolding interrupt_lent output_right
returns-then-not-program c = past-1 (goal.at.returns-then-not-program c).Else-not-lent _ (yes _ _ _ c.if-not-program.true refl)

pub returns : goal.returns
unfolding interrupt_lent output_right
returns c = past-1 (goal.at.returns c).Else-not-lent _ (no _ _ _ c.if-not-program.false refl)

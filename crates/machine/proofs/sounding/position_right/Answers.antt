-- `position_right` meets its contract: a position with no slot, or its slot's root. Assumes nothing.
use Rattle.lists.proofs.Kit.{sym, ◌∙◌, eq-eqb, ne_eqb}
use Rattle.lists.proofs.Laws.Pick.{picks, no}
use Rattle.machine.proofs.Laws.Beside.{beside-holds}
use Rattle.machine.proofs.sounding.position_right.Goals as goal

pub slot_right-requires : goal.slot_right-requires
slot_right-requires c =
    let beside = beside-holds _ _ _ c.args.slot c.requires c.if-slot-eq-NONE.false in
    record { size = c.requires.size; n_value = beside.0; n_value_2 = beside.1 }

pub returns-then-slot-eq-NONE : goal.returns-then-slot-eq-NONE
returns-then-slot-eq-NONE c = let e = eq-eqb _ _ c.if-slot-eq-NONE.true in e ∙ sym (picks _ _ _ e)

pub returns-else-slot-eq-NONE : goal.returns-else-slot-eq-NONE
returns-else-slot-eq-NONE c = no _ _ _ (ne_eqb _ _ c.if-slot-eq-NONE.false) c.slot_right.ensures

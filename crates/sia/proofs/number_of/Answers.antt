-- `sia::number_of` meets its contract: the part is 8 bytes, or it is refused. Assumes nothing.
use Rattle.lists.proofs.Kit.{refl, ap, length, ◌∙◌, eq-eqb, ne_eqb}
use Rattle.lists.proofs.Laws.Pick.{yes, no}
use Rattle.area.specs.Little.{value_of}
use Rattle.area.proofs.Laws.Little.{value_le8}
use Rattle.sia.specs.Number.{decoded, number}
use Rattle.sia.proofs.number_of.Goals as goal

pub returns-in_default : goal.returns-in_default
unfolding number
returns-in_default c = no _ _ _ (ne_eqb _ _ c.in_default.ensures.1) refl

pub returns : goal.returns
unfolding number
returns c =
    let whole = c.in-Ok.ensures.1 in
    let value = c.from_le_bytes.ensures ∙ value_le8 _ (ap length whole.same ∙ whole.long) ∙ ap value_of whole.same in
    yes _ _ _ (eq-eqb _ _ whole.long) (ap (decoded 0) value)

-- `asked::provable_in` meets its contract, test by test. Assumes nothing.
use Rattle.lists.proofs.Kit.{refl, sym, ◌∙◌, eq-eqb, ne_eqb, lt-ltb, le-ltb}
use Rattle.lists.proofs.Laws.Pick.{yes, no}
use Rattle.tree.specs.Answers.{provable_in, wholes}
use Rattle.tree.proofs.asked.provable_in.Goals as goal
use Rattle.tree.proofs.asked.provable_in.Goals.{then-roots-ne0-via-then-roots-ne0, then-roots-ne0-via-else-roots-ne0+then-roots-at}

pub returns-then-roots-ne0 : goal.returns-then-roots-ne0
unfolding provable_in wholes
returns-then-roots-ne0 c =
    elim c.then-roots-ne0.branch [
      | then-roots-ne0-via-then-roots-ne0 w ↦ no _ _ _ (ne_eqb _ _ w.if-roots-ne0.true) refl
      | then-roots-ne0-via-else-roots-ne0+then-roots-at w ↦
          yes _ _ _ (eq-eqb _ _ w.if-roots-ne0.false) (no _ _ _ (le-ltb _ _ w.if-roots-at.true) refl)
    ]

pub returns-then-is_power : goal.returns-then-is_power
unfolding provable_in wholes
returns-then-is_power c =
    yes _ _ _ (eq-eqb _ _ c.if-roots-ne0.false)
    (yes _ _ _ (lt-ltb _ _ c.if-roots-at.false) (yes _ _ _ (sym c.is_power.ensures ∙ c.if-is_power.true) c.provable.ensures))

pub returns-else-is_power : goal.returns-else-is_power
unfolding provable_in wholes
returns-else-is_power c =
    yes _ _ _ (eq-eqb _ _ c.if-roots-ne0.false)
    (yes _ _ _ (lt-ltb _ _ c.if-roots-at.false) (no _ _ _ (sym c.is_power.ensures ∙ c.if-is_power.false) c.if-is_power.false))

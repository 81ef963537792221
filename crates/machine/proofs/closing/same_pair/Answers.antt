-- `machine::closing::same_pair` meets its contract: the sizes, then all 32 bytes. Assumes nothing.
use Rattle.lists.proofs.Kit.{refl, eq-eqb, ne_eqb}
use Rattle.lists.proofs.Laws.Pick.{yes, no}
use Rattle.machine_rules.specs.Record.{same_pair}
use Rattle.machine.proofs.closing.same_pair.Goals as goal

pub returns : goal.returns
unfolding same_pair
returns c =
    yes _ _ _ (eq-eqb _ _ c.if-one-two.false) c.same.ensures

pub returns-then-one-two : goal.returns-then-one-two
unfolding same_pair
returns-then-one-two c = no _ _ _ (ne_eqb _ _ c.if-one-two.true) refl

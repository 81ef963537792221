-- `machine_effect::resizing::resized` meets its contract: a walk down the definition. Assumes nothing.
use Rattle.lists.proofs.Kit.{refl, lt-ltb, le-ltb}
use Rattle.lists.proofs.Laws.Pick.{yes, no}
use Rattle.machine_rules.specs.Effect.{resized}
use Rattle.machine_effect.specs.Parts.{grown}
use Rattle.machine_effect.proofs.resizing.resized.Goals as goal

pub returns-then-size-new-clause-resized : goal.returns-then-size-new-clause-resized
unfolding resized grown
returns-then-size-new-clause-resized c = yes _ _ _ (lt-ltb _ _ c.if-size-new.true) c.new_zeros.ensures.grown

pub returns-then-new-size-clause-resized : goal.returns-then-new-size-clause-resized
unfolding resized
returns-then-new-size-clause-resized c =
    no _ _ _ (le-ltb _ _ c.if-size-new.false) (yes _ _ _ (lt-ltb _ _ c.if-new-size.true) refl)

pub returns-else-new-size-clause-resized : goal.returns-else-new-size-clause-resized
unfolding resized
returns-else-new-size-clause-resized c =
    no _ _ _ (le-ltb _ _ c.if-size-new.false) (no _ _ _ (le-ltb _ _ c.if-new-size.false) refl)

-- `sia::limits::within` meets its contract: the three limits in the definition's order. Assumes nothing.
use Rattle.std.proofs.Common.{rules, tests}
use Rattle.std.proofs.lemmas.Iterator.{YieldsList-from_slice}
use Rattle.lists.proofs.Kit.{refl, ◌∙◌, le-leb, lt-leb}
use Rattle.lists.proofs.Laws.Library.{all-every}
use Rattle.lists.proofs.Laws.Pick.{yes, no}
use Rattle.sia.specs.Encode.{within, few_operands}
use Rattle.sia.proofs.limits.within.Goals as goal

pub returns-then-head-gt-INSTRUCTIONS : goal.returns-then-head-gt-INSTRUCTIONS
unfolding within
returns-then-head-gt-INSTRUCTIONS c = no _ _ _ (lt-leb _ _ c.if-head-gt-INSTRUCTIONS.true) refl

pub returns-then-head-le-LENGTH : goal.returns-then-head-le-LENGTH
unfolding within
returns-then-head-le-LENGTH c =
    let used = YieldsList-from_slice _ c.iter.ensures.rest in
    yes _ _ _ (le-leb _ _ c.if-head-gt-INSTRUCTIONS.false) (yes _ _ _ (le-leb _ _ c.if-head-le-LENGTH.true)
    (all-every few_operands _ _ _ c.all.ensures.ran used (λ x b q k. search (rules, tests))))

pub returns-else-head-le-LENGTH : goal.returns-else-head-le-LENGTH
unfolding within
returns-else-head-le-LENGTH c =
    lt-leb _ _ c.if-head-le-LENGTH.false ∙ yes _ _ _ (le-leb _ _ c.if-head-gt-INSTRUCTIONS.false) (no _ _ _ (lt-leb _ _ c.if-head-le-LENGTH.false) refl)

-- `count` meets its contract: a range or a refusal. Assumes nothing.
use Rattle.lists.proofs.Kit.{refl, sym, ap, ◌∙◌, ℕ, arith}
use Rattle.lists.proofs.Laws.Pick.{yes, no}
use Rattle.tree.specs.Answers.{counted}
use Rattle.tree.proofs.Laws.Answered.{ranged-tells}
use Rattle.tree.proofs.count.Goals as goal

pub returns-then-not-ranged-clause-answer : goal.returns-then-not-ranged-clause-answer
unfolding counted
returns-then-not-ranged-clause-answer c = no _ _ _ (sym c.ranged.ensures ∙ c.if-not-ranged.true) refl

pub count-requires : goal.count-requires
count-requires c = let r = ranged-tells _ _ _ (sym c.ranged.ensures ∙ c.if-not-ranged.false) in omega arith

pub returns-clause-answer : goal.returns-clause-answer
unfolding counted
returns-clause-answer c =
    yes _ _ _ (sym c.ranged.ensures ∙ c.if-not-ranged.false)
    (ap (λ (n : ℕ). record { number = 0; count = n }) c.count.ensures)

-- `Leaves::root` meets its contract: whole leaves or a refusal. Assumes nothing.
use Rattle.lists.proofs.Kit.{refl, sym, subst, ap, ◌∙◌, List, ℕ}
use Rattle.lists.proofs.Laws.Pick.{yes, no}
use Rattle.tree.specs.Answers.{root_if}
use Rattle.tree.specs.Leaves.{Has, leaf_at}
use Rattle.tree.specs.Tree.{root_over}
use Rattle.tree.proofs.Laws.Leaves.{has_all}
use Rattle.tree.proofs.leaves.Leaves.root.Goals as goal

pub returns-then-not-whole-clause-answer : goal.returns-then-not-whole-clause-answer
unfolding root_if
returns-then-not-whole-clause-answer c = no _ _ _ (sym c.whole.ensures ∙ c.if-not-whole.true) refl

pub root-requires : goal.root-requires
root-requires c = subst (Has c.args.self) (sym c.count.ensures) (has_all c.args.self)

pub returns-clause-answer : goal.returns-clause-answer
unfolding root_if
returns-clause-answer c =
    yes _ _ _ (sym c.whole.ensures ∙ c.if-not-whole.false)
    (ap (λ (l : List ℕ). record { number = 0; root = l })
    (c.root.ensures ∙ ap (λ (n : ℕ). root_over n (leaf_at c.args.self)) c.count.ensures))

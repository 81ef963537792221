-- `join` meets its contract: the leaves are roots. Assumes nothing.
use Rattle.lists.proofs.Kit.{sym, ap, ◌∙◌}
use Rattle.tree.specs.Tree.{join_is}
use Rattle.tree.specs.Answers.{root_if, joined, wholes}
use Rattle.tree.proofs.join.Goals as goal

pub returns-clause-answer : goal.returns-clause-answer
unfolding joined
returns-clause-answer c = c.root.ensures.answer ∙ ap (root_if (wholes 32 c.args.roots.now)) (sym (join_is c.args.roots.now))

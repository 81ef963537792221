-- `root` meets its contract: the leaves are segments. Assumes nothing.
use Rattle.lists.proofs.Kit.{sym, ap, ◌∙◌}
use Rattle.tree.specs.Tree.{root_is}
use Rattle.tree.specs.Answers.{root_if, rooted, wholes}
use Rattle.tree.proofs.root.Goals as goal

pub returns-clause-answer : goal.returns-clause-answer
unfolding rooted
returns-clause-answer c = c.root.ensures.answer ∙ ap (root_if (wholes 64 c.args.bytes.now)) (sym (root_is c.args.bytes.now))

-- `asked::is_power` meets its contract: one digit is set just where it is a power of two. Assumes nothing.
use Rattle.lists.proofs.Kit.{◌∙◌, rules}
use Rattle.tree.proofs.Laws.Powers.{one_digit}
use Rattle.tree.proofs.asked.is_power.Goals as goal

pub returns : goal.returns
returns c = c.is_power_of_two.ensures ∙ one_digit c.args.n (search rules)

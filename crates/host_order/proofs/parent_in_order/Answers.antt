-- `host_order::parent_in_order` meets its contract. Assumes nothing.
use Rattle.lists.proofs.Kit.{arith}
use Rattle.std.proofs.lemmas.Bool.Decides.{nat_tests}
use Rattle.lists.proofs.Laws.Library.{pick-cond}
use Rattle.host.specs.Order.{parent_in_order}
use Rattle.host_order.proofs.parent_in_order.Goals as goal

pub returns-then-is_read_only : goal.returns-then-is_read_only
unfolding parent_in_order
returns-then-is_read_only c = simp pick-cond (grind (arith, nat_tests))

pub returns-else-is_read_only : goal.returns-else-is_read_only
unfolding parent_in_order
returns-else-is_read_only c = simp pick-cond (grind (arith, nat_tests))

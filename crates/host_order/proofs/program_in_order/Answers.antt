-- `host_order::program_in_order` meets its contract. Assumes nothing.
use Rattle.lists.proofs.Kit.{arith}
use Rattle.std.proofs.lemmas.Bool.Decides.{nat_tests}
use Rattle.lists.proofs.Laws.Library.{both-and}
use Rattle.host.specs.Order.{program_in_order}
use Rattle.host_order.proofs.program_in_order.Goals as goal

pub returns-then-g : goal.returns-then-g
unfolding program_in_order
returns-then-g c = simp both-and (grind (arith, nat_tests))

pub returns-else-g : goal.returns-else-g
unfolding program_in_order
returns-else-g c = simp both-and (grind (arith, nat_tests))

-- `host_order::progress_in_order` meets its contract. Assumes nothing.
use Rattle.lists.proofs.Kit.{arith}
use Rattle.std.proofs.lemmas.Bool.Decides.{nat_tests}
use Rattle.lists.proofs.Laws.Library.{both-and}
use Rattle.host.specs.Order.{progress_in_order}
use Rattle.host_order.proofs.progress_in_order.Goals as goal

pub returns-then-sizes_fit : goal.returns-then-sizes_fit
unfolding progress_in_order
returns-then-sizes_fit c = simp both-and (grind (arith, nat_tests))

pub returns-else-sizes_fit : goal.returns-else-sizes_fit
unfolding progress_in_order
returns-else-sizes_fit c = simp both-and (grind (arith, nat_tests))

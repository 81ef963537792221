-- `host_order::are_twins` meets its contract. Assumes nothing.
use Rattle.lists.proofs.Kit.{arith}
use Rattle.std.proofs.lemmas.Bool.Decides.{nat_tests}
use Rattle.lists.proofs.Laws.Library.{both-and}
use Rattle.host.specs.Order.{twins}
use Rattle.host_order.proofs.are_twins.Goals as goal

pub returns-then-q : goal.returns-then-q
unfolding twins
returns-then-q c = simp both-and (grind (arith, nat_tests))

pub returns-else-q : goal.returns-else-q
unfolding twins
returns-else-q c = simp both-and (grind (arith, nat_tests))

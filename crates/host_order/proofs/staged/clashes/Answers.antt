-- `host_order::staged::clashes` meets its contract. Assumes nothing.
use Rattle.lists.proofs.Kit.{arith}
use Rattle.std.proofs.lemmas.Bool.Decides.{nat_tests}
use Rattle.lists.proofs.Laws.Library.{both-and}
use Rattle.host.specs.Order.{clash}
use Rattle.host_order.proofs.staged.clashes.Goals as goal

pub returns-then-y-ne-NONE : goal.returns-then-y-ne-NONE
unfolding clash
returns-then-y-ne-NONE c = simp both-and (grind (arith, nat_tests))

pub returns-else-y-ne-NONE : goal.returns-else-y-ne-NONE
unfolding clash
returns-else-y-ne-NONE c = simp both-and (grind (arith, nat_tests))

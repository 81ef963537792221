-- `host_order::slots_in_order` meets its contract. Assumes nothing.
use Rattle.lists.proofs.Kit.{arith}
use Rattle.std.proofs.lemmas.Bool.Decides.{nat_tests}
use Rattle.lists.proofs.Laws.Library.{both-and}
use Rattle.host_order.proofs.slots_in_order.Goals as goal

pub returns-then-distinct : goal.returns-then-distinct
returns-then-distinct c = simp both-and (grind (arith, nat_tests))

pub returns-else-distinct : goal.returns-else-distinct
returns-else-distinct c = simp both-and (grind (arith, nat_tests))

-- `host_order::areas::areas_right` meets its contract. Assumes nothing.
use Rattle.lists.proofs.Kit.{arith}
use Rattle.std.proofs.lemmas.Bool.Decides.{nat_tests}
use Rattle.lists.proofs.Laws.Library.{both-and}
use Rattle.host_order.proofs.areas.areas_right.Goals as goal

pub returns-then-lent : goal.returns-then-lent
returns-then-lent c = simp both-and (grind (arith, nat_tests))

pub returns-else-lent : goal.returns-else-lent
returns-else-lent c = simp both-and (grind (arith, nat_tests))

-- `host_order::owed` meets its contract. Assumes nothing.
use Rattle.lists.proofs.Kit.{arith}
use Rattle.std.proofs.lemmas.Bool.Decides.{nat_tests}
use Rattle.lists.proofs.Laws.Library.{pick-cond}
use Rattle.host_order.proofs.owed.Goals as goal

pub returns-then-failed : goal.returns-then-failed
returns-then-failed c = simp pick-cond (grind (arith, nat_tests))

pub returns-else-failed : goal.returns-else-failed
returns-else-failed c = simp pick-cond (grind (arith, nat_tests))

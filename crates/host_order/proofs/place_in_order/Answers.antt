-- `host_order::place_in_order` meets its contract. Assumes nothing.
use Rattle.lists.proofs.Kit.{arith}
use Rattle.std.proofs.lemmas.Bool.Decides.{nat_tests}
use Rattle.lists.proofs.Laws.Library.{both-and, either-or}
use Rattle.host.specs.Order.{place_in_order}
use Rattle.host_order.proofs.place_in_order.Goals as goal

pub returns-then-not-p : goal.returns-then-not-p
unfolding place_in_order
returns-then-not-p c = simp (either-or, both-and) (grind (arith, nat_tests))

pub returns-then-p-z-eq0 : goal.returns-then-p-z-eq0
unfolding place_in_order
returns-then-p-z-eq0 c = simp (either-or, both-and) (grind (arith, nat_tests))

pub returns-else-p-z-eq0 : goal.returns-else-p-z-eq0
unfolding place_in_order
returns-else-p-z-eq0 c = simp (either-or, both-and) (grind (arith, nat_tests))

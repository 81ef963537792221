-- `host_order::terms_in_order` meets its contract. Assumes nothing.
use Rattle.lists.proofs.Kit.{arith}
use Rattle.std.proofs.lemmas.Bool.Decides.{nat_tests}
use Rattle.lists.proofs.Laws.Library.{both-and}
use Rattle.host.specs.Order.{terms_in_order}
use Rattle.host_order.proofs.terms_in_order.Goals as goal

pub returns-then-within : goal.returns-then-within
unfolding terms_in_order
returns-then-within c = simp both-and (grind (arith, nat_tests))

pub returns-else-within : goal.returns-else-within
unfolding terms_in_order
returns-else-within c = simp both-and (grind (arith, nat_tests))

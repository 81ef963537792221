-- `host_order::staged::slot_in_order` meets its contract. Assumes nothing.
use Rattle.lists.proofs.Kit.{arith}
use Rattle.std.proofs.lemmas.Bool.Decides.{nat_tests}
use Rattle.lists.proofs.Laws.Library.{either-or}
use Rattle.host.specs.Order.{slot_in_order}
use Rattle.host_order.proofs.staged.slot_in_order.Goals as goal

pub returns-then-x-eq-NONE : goal.returns-then-x-eq-NONE
unfolding slot_in_order
returns-then-x-eq-NONE c = simp either-or (grind (arith, nat_tests))

pub returns-else-x-eq-NONE : goal.returns-else-x-eq-NONE
unfolding slot_in_order
returns-else-x-eq-NONE c = simp either-or (grind (arith, nat_tests))

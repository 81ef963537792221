-- `host_order::in_order` meets its contract. Assumes nothing.
use Rattle.lists.proofs.Kit.{arith}
use Rattle.std.proofs.lemmas.Bool.Decides.{nat_tests}
use Rattle.lists.proofs.Laws.Library.{both-and, either-or}
use Rattle.area.specs.Slots.{Size}
use Rattle.host.specs.Order.{in_order}
use Rattle.host.proofs.Laws.Sizes.{size-facts}
use Rattle.host.proofs.Laws.Order.{lent-facts}
use Rattle.host_order.proofs.in_order.Goals as goal

pub places_in_order-requires : goal.places_in_order-requires
places_in_order-requires c = let size : Size c.args.host.sector = size-facts _ (grind (arith, nat_tests)) in omega (arith, size.least)

pub program_in_order-requires-clause-size : goal.program_in_order-requires-clause-size
program_in_order-requires-clause-size c = size-facts _ (grind (arith, nat_tests))

pub program_in_order-requires-clause-disk_bound : goal.program_in_order-requires-clause-disk_bound
program_in_order-requires-clause-disk_bound c = let disk = lent-facts 64 c.args.host.disk (grind (arith, nat_tests)) in disk.1

pub returns-then-not-host : goal.returns-then-not-host
unfolding in_order
returns-then-not-host c = simp (either-or, both-and) (grind (arith, nat_tests))

pub returns-else-not-host : goal.returns-else-not-host
unfolding in_order
returns-else-not-host c = simp (either-or, both-and) (grind (arith, nat_tests))

pub returns-else-places_in_order : goal.returns-else-places_in_order
unfolding in_order
returns-else-places_in_order c = simp (either-or, both-and) (grind (arith, nat_tests))

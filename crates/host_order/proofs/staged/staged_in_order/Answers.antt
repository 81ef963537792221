-- `host_order::staged::staged_in_order` meets its contract. Assumes nothing.
use Rattle.lists.proofs.Kit.{◌/◌, arith}
use Rattle.lists.proofs.Laws.Library.{both-and}
use Rattle.std.proofs.lemmas.Bool.Decides.{nat_tests}
use Rattle.host.specs.Order.{staged_in_order}
use Rattle.host_order.proofs.Laws.Ends.{behind, between}
use Rattle.host_order.proofs.staged.staged_in_order.Goals as goal

pub returns-then-none_staged : goal.returns-then-none_staged
unfolding staged_in_order
returns-then-none_staged c =
    let a = c.args in
    let aft = behind a.staged 64 (a.size / a.z) c.sectors-end.result c.well_formed.1.1.1.1.0.1.0.1 c.sectors-end.ensures.0 in
    let part = between a.staged 64 (a.size / a.z) c.sectors-end.result c.well_formed.1.1.1.1.0.1.0.1 c.sectors-end.ensures.0 a.start _ c.min-past.ensures in
    simp both-and (grind (arith, nat_tests, aft, part))

pub returns-else-none_staged : goal.returns-else-none_staged
unfolding staged_in_order
returns-else-none_staged c =
    let a = c.args in
    let aft = behind a.staged 64 (a.size / a.z) c.sectors-end.result c.well_formed.1.1.1.1.0.1.0.1 c.sectors-end.ensures.0 in
    simp both-and (grind (arith, nat_tests, aft))

-- `host_order::places_in_order` meets its contract. Assumes nothing.
use Rattle.lists.proofs.Kit.{◌≡◌, ◌∙◌, arith, eqb, ltb}
use Rattle.std.specs.Prelude.{◌&&◌}
use Rattle.std.proofs.lemmas.Bool.Decides.{nat_tests}
use Rattle.lists.specs.Tests.{every, apart}
use Rattle.lists.proofs.Laws.Library.{both-and}
use Rattle.host.specs.Places.{taken}
use Rattle.host.specs.Order.{places_in_order}
use Rattle.host_order.proofs.places_in_order.Goals as goal

pub returns-then-no_twins : goal.returns-then-no_twins
unfolding places_in_order
returns-then-no_twins c =
    let slots = taken c.args.z c.args.places in
    let e : c.slots_in_order.result ≡ (apart eqb slots && every (λ n. ltb n c.args.disk) slots) = c.slots_in_order.ensures ∙ both-and _ _ in
    simp both-and (grind (arith, nat_tests, e))

pub returns-else-no_twins : goal.returns-else-no_twins
unfolding places_in_order
returns-else-no_twins c = simp both-and (grind (arith, nat_tests))

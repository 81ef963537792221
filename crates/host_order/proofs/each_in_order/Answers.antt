-- `host_order::each_in_order` meets its contract. Assumes nothing.
use Rattle.std.proofs.Common.{rules, tests}
use Rattle.std.proofs.lemmas.Iterator.{YieldsList-from_slice}
use Rattle.lists.proofs.Laws.Library.{all-every}
use Rattle.host.specs.Order.{place_in_order}
use Rattle.host_order.proofs.each_in_order.Goals as goal

pub returns : goal.returns
returns c =
    let places = YieldsList-from_slice c.args.places cc in
    all-every (place_in_order c.args.z) _ _ _ c.all.ensures.ran places (λ x b q k. search (rules, tests))

-- `host_order::staged::slots_in_order` meets its contract. Assumes nothing.
use Rattle.std.proofs.Common.{rules, tests}
use Rattle.std.proofs.lemmas.Iterator.{YieldsList-from_slice}
use Rattle.lists.proofs.Laws.Library.{all-every}
use Rattle.host.specs.Order.{slot_in_order}
use Rattle.host_order.proofs.staged.slots_in_order.Goals as goal

pub returns : goal.returns
returns c =
    let staged = YieldsList-from_slice c.args.staged.now cc in
    all-every (slot_in_order c.args.stage) _ _ _ c.all.ensures.ran staged (λ x b q k. search (rules, tests))

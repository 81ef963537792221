-- `host::taken::below` meets its contract. Assumes nothing.
use Rattle.lists.proofs.Kit.{ltb}
use Rattle.lists.proofs.Laws.Library.{all-every}
use Rattle.std.proofs.Common.{rules, tests}
use Rattle.std.proofs.lemmas.Iterator.{YieldsList-from_slice}
use Rattle.host.proofs.taken.below.Goals as goal

pub returns : goal.returns
returns c =
    let slots = YieldsList-from_slice c.args.slots.now cc in
    all-every (λ n. ltb n c.args.limit) _ _ _ c.all.ensures.ran slots (λ x b q k. search (rules, tests))

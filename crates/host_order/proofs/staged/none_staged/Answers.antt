-- `host_order::staged::none_staged` meets its contract. Assumes nothing.
use Rattle.lists.proofs.Kit.{eqb}
use Rattle.std.proofs.Common.{rules, tests}
use Rattle.std.proofs.lemmas.Iterator.{YieldsList-from_slice}
use Rattle.lists.proofs.Laws.Library.{all-every}
use Rattle.host.specs.Empty.{none}
use Rattle.host_order.proofs.staged.none_staged.Goals as goal

pub returns : goal.returns
returns c =
    let staged = YieldsList-from_slice c.args.staged.now cc in
    all-every (λ n. eqb n none) _ _ _ c.all.ensures.ran staged (λ x b q k. search (rules, tests))

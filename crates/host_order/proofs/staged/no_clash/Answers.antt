-- `host_order::staged::no_clash` meets its contract: a position that is not staged clashes with none. Assumes nothing.
use Rattle.std.proofs.Common.{rules}
use Rattle.lists.proofs.Kit.{ap, not, eqb}
use Rattle.lists.proofs.Laws.Pick.{both-not-left}
use Rattle.host.specs.Empty.{none}
use Rattle.host.specs.Order.{clash}
use Rattle.host_order.proofs.staged.no_clash.Goals as goal

pub returns : goal.returns
unfolding clash
returns c = c.apart_but.ensures (λ n. eqb n none) clash (λ x b s. search rules) (λ x y b s. search rules) (λ x y p. both-not-left _ _ (ap not p))

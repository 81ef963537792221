-- `host_order::no_twins` meets its contract: a place that holds none has no twin. Assumes nothing.
use Rattle.lists.proofs.Kit.{not, arith}
use Rattle.std.proofs.lemmas.Bool.Decides.{nat_tests}
use Rattle.std.proofs.Common.{rules}
use Rattle.lists.proofs.Laws.Pick.{both-not-left}
use Rattle.host.specs.Order.{twins}
use Rattle.host_order.proofs.no_twins.Goals as goal

pub returns : goal.returns
unfolding twins
returns c =
    c.apart_but.ensures (λ p. not p.held) twins (λ x b s. search rules) (λ x y b s. search rules)
    (λ x y p. both-not-left _ _ (grind (arith, nat_tests, p)))

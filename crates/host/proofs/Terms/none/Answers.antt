-- `host::Terms::none` meets its contract: the empty head, and prices of 0. Assumes nothing.
use Rattle.lists.proofs.Kit.{ap₂}
use Rattle.sia.specs.declared.Head.{Head}
use Rattle.host.specs.declared.Prices.{Prices}
use Rattle.host.specs.Empty.{no_terms}
use Rattle.host.proofs.Terms.none.Goals as goal

pub returns : goal.returns
unfolding no_terms
returns c =
    ap₂ (λ (head : Head) (prices : Prices). record { head = head; prices = prices; budget = 0; room = 0 }) c.empty.ensures c.none.ensures

-- `host::Prices::none` meets its contract: all zeros. Assumes nothing.
use Rattle.lists.proofs.Kit.{refl}
use Rattle.host.specs.Empty.{no_prices}
use Rattle.host.proofs.Prices.none.Goals as goal

pub returns : goal.returns
unfolding no_prices
returns c = refl

-- `host_contracts::new_place` meets its contract. Assumes nothing.
use Rattle.lists.proofs.Kit.{refl}
use Rattle.host.specs.Empty.{new_place}
use Rattle.host_contracts.proofs.new_place.Goals as goal

pub returns : goal.returns
unfolding new_place
returns c = refl

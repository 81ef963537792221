-- `host::Place::none` meets its contract: all zeros. Assumes nothing.
use Rattle.lists.proofs.Kit.{refl}
use Rattle.host.specs.Empty.{no_place}
use Rattle.host.proofs.Place.none.Goals as goal

pub returns : goal.returns
unfolding no_place
returns c = refl

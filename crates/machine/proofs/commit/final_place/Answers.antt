-- `machine::commit::final_place` meets its contract: two fields are changed. Assumes nothing.
use Rattle.lists.proofs.Kit.{refl}
use Rattle.host.specs.With.{with_size, with_slots}
use Rattle.machine.proofs.commit.final_place.Goals as goal

pub returns : goal.returns
unfolding with_slots with_size
returns c = refl

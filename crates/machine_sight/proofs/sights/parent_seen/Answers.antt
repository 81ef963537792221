-- `parent_seen` meets its contract. Assumes nothing.
use Rattle.lists.proofs.Kit.{refl}
use Rattle.machine_sight.specs.Seen.{spots_of}
use Rattle.machine_sight.proofs.sights.parent_seen.Goals as goal

pub returns : goal.returns
unfolding spots_of
returns c = (refl, refl)

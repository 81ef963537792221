-- `nothing` meets its contract. Assumes nothing.
use Rattle.lists.proofs.Kit.{refl, arith}
use Rattle.lists.specs.Tab.{tab}
use Rattle.machine_sight.specs.Seen.{spots_of}
use Rattle.machine_sight.proofs.sights.nothing.Goals as goal

pub returns : goal.returns
unfolding spots_of tab
returns c = (refl, omega arith)

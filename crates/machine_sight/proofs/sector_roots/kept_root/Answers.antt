-- `kept_root` meets its contract: kept roots are an area with slots of 32 bytes. Assumes nothing.
use Rattle.machine_rules.specs.Roots.{kept_root}
use Rattle.machine_sight.proofs.sector_roots.kept_root.Goals as goal

pub returns : goal.returns
unfolding kept_root
returns c = c.sector.ensures

-- `Seen::spot` meets its contract: the stage where it has a copy, else the disk. Assumes nothing.
use Rattle.lists.proofs.Kit.{ap, ◌∙◌}
use Rattle.machine_rules.specs.declared.Spot.TheVariants.{OnDisk, InStage}
use Rattle.machine_sight.proofs.Laws.Sectors.{spot-disk, spot-stage}
use Rattle.machine_sight.proofs.Seen.spot.Goals as goal

pub returns-then-copy : goal.returns-then-copy
returns-then-copy c =
    ap OnDisk c.from.ensures ∙ spot-disk _ _ _ 64 c.well_formed.0.1.1.1.1.0.1.0.1 c.requires c.if-copy.true

pub returns-else-copy : goal.returns-else-copy
returns-else-copy c = ap InStage c.from-else-copy.ensures ∙ spot-stage _ _ _ 64 c.well_formed.0.1.1.1.1.0.1.0.1 c.requires c.if-copy.false

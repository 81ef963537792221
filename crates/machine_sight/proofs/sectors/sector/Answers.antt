-- `sector` meets its contract: the slot of the area that holds it. Assumes nothing.
use Rattle.lists.proofs.Kit.{◌∙◌}
use Rattle.machine_sight.proofs.Laws.Sectors.{on-disk, in-stage, disk-sector, stage-sector}
use Rattle.machine_sight.proofs.sectors.sector.Goals as goal

pub slot-requires : goal.slot-requires
slot-requires c = on-disk _ _ _ _ c.in-OnDisk.is c.requires

pub slot-requires-in-InStage : goal.slot-requires-in-InStage
slot-requires-in-InStage c = in-stage _ _ _ _ c.in-InStage.is c.requires

pub returns-in-OnDisk : goal.returns-in-OnDisk
returns-in-OnDisk c = (c.slot.ensures.0 ∙ disk-sector _ _ _ _ c.in-OnDisk.is, c.slot.ensures.1)

pub returns-in-InStage : goal.returns-in-InStage
returns-in-InStage c = (c.slot-in-InStage.ensures.0 ∙ stage-sector _ _ _ _ c.in-InStage.is, c.slot-in-InStage.ensures.1)

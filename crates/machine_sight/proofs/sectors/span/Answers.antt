-- `span` meets its contract: a part of the sector that holds it. Assumes nothing.
use Rattle.lists.proofs.Kit.{ap, ◌∙◌, ◌%◌, arith}
use Rattle.machine_rules.specs.View.{sector}
use Rattle.machine_sight.proofs.Laws.Sectors.{seen-lies, sector-span}
use Rattle.machine_sight.proofs.sectors.span.Goals as goal

pub sector-bytes-requires : goal.sector-bytes-requires
sector-bytes-requires c =
    seen-lies _ _ _ _ _ c.requires.lies.spots c.requires.inside.below c.spot.ensures

pub returns : goal.returns
returns c =
    sector-span _ (c.args.at % c.args.z) c.args.n
    (c.sector-bytes.ensures.0 ∙ ap (sector c.args.z c.args.disk.now c.args.stage.now) c.spot.ensures)
    (omega (arith, c.sector-bytes.ensures.1, c.requires.inside.one))

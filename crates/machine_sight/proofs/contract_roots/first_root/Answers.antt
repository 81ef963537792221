-- `first_root` meets its contract: the root kept beside the first spot, all of it. Assumes nothing.
use Rattle.lists.proofs.Kit.{ap, ◌∙◌}
use Rattle.machine_rules.specs.Roots.{kept_root}
use Rattle.machine_sight.proofs.Laws.Sectors.{seen-lies}
use Rattle.machine_sight.proofs.contract_roots.first_root.Goals as goal

pub kept_root-requires : goal.kept_root-requires
kept_root-requires c =
    seen-lies _ _ _ _ _ c.requires.known.spots c.requires.count_nonzero c.spot.ensures

pub returns : goal.returns
returns c =
    let root = c.kept_root.ensures in
    c.copy_from_slice.ensures.after ∙ root.0
    ∙ ap (kept_root c.args.diskroots.now c.args.stageroots.now) c.spot.ensures

-- `machine_sight::lookup::find_in_all` meets its contract: no contract is the parent, so that none is left out. Assumes nothing.
use Rattle.lists.proofs.Kit.{ap, ◌∙◌}
use Rattle.machine_rules.specs.Roots.{kept_root}
use Rattle.machine_rules.specs.Seats.{first_seat}
use Rattle.machine_sight.proofs.Laws.Lookup.{seeks-none, seats-none}
use Rattle.machine_sight.proofs.lookup.find_in_all.Goals as goal

pub returns : goal.returns
returns c =
    let f = kept_root c.args.diskroots.now c.args.stageroots.now in
    c.find_root.ensures ∙ ap (first_seat f c.args.key) (seats-none c.args.z c.args.diskroots.now c.args.places c.requires _)

pub find_root-requires : goal.find_root-requires
find_root-requires c = seeks-none _ _ _ c.requires _ _ _

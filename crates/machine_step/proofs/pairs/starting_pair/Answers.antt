-- `machine_step::pairs::starting_pair` meets its contract: the parent's size, and the root of its committed sectors. Assumes nothing.
use Rattle.lists.proofs.Kit.{◌≡◌, ap, ◌∙◌, []}
use Rattle.host.proofs.Laws.Lengths.{disk-rooted}
use Rattle.machine_rules.specs.View.{setting_of, parent, volume_by}
use Rattle.machine_rules.specs.Roots.{kept_root, root_by, root_of}
use Rattle.machine_rules.specs.Record.{pairing, pair_of, starting_pair}
use Rattle.machine_step.proofs.Laws.Hosts.{stands}
use Rattle.machine_step.proofs.pairs.starting_pair.Goals as goal
use Rattle.machine_step.proofs.pairs.starting_pair.Goals.{After-parent-parent}

own : (c : After-parent-parent) → c.parent-parent.result ≡ parent (setting_of c.args.host)
own c = c.parent-parent.ensures ∙ ap parent c.setting_of.ensures

pub committed_root-root-requires : goal.committed_root-root-requires
unfolding parent
committed_root-root-requires c =
    stands c.args.host _ (disk-rooted c.args.host _ c.well_formed.0) (own (goal.at.committed_root-root-requires c).After-parent-parent) c.requires

pub returns : goal.returns
unfolding starting_pair pair_of parent volume_by root_of root_by
returns c =
    let h = c.args.host in
    ap (pairing c.parent-parent.result.size) c.committed_root-root.ensures ∙ ap (pair_of h.sector (kept_root h.diskroots [])) (own (goal.at.returns c).After-parent-parent)

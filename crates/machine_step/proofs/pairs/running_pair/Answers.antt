-- `machine_step::pairs::running_pair` meets its contract: the running size, and the root of the parent's sectors as they are read. Assumes nothing.
use Rattle.lists.proofs.Kit.{◌≡◌, ap, ◌∙◌, List, ℕ, ◌/◌, sym}
use Rattle.lists.specs.Tab.{tab}
use Rattle.host.proofs.Laws.Lengths.{hosted, disk-rooted, stage-rooted}
use Rattle.machine_rules.specs.View.{setting_of, parent, spot_of, parent_spots, volume_by}
use Rattle.machine_rules.specs.Roots.{kept_root, contract_root}
use Rattle.machine_rules.specs.Record.{pairing, running_pair}
use Rattle.machine_step.proofs.Laws.Hosts.{reads}
use Rattle.host.specs.declared.Place.{Place}
use Rattle.machine_step.proofs.pairs.running_pair.Goals as goal
use Rattle.machine_step.proofs.pairs.running_pair.Goals.{After-parent-parent}

own : (c : After-parent-parent) → c.parent-parent.result ≡ parent (setting_of c.args.host)
own c = c.parent-parent.ensures ∙ ap parent c.setting_of.ensures

pub running_root-root-requires : goal.running_root-root-requires
unfolding parent
running_root-root-requires c =
    let h = c.args.host in
    reads h (hosted h _ c.well_formed.0) (disk-rooted h _ c.well_formed.0) (stage-rooted h _ c.well_formed.0) (own (goal.at.running_root-root-requires c).After-parent-parent) c.requires.host_value c.requires.active_value

pub returns : goal.returns
unfolding running_pair parent_spots parent volume_by
returns c =
    let h = c.args.host in
    let z = h.sector in
    let p = h.program.progress in
    let root : Place → List ℕ = λ q. contract_root (kept_root h.diskroots h.stageroots) (tab 0 (p.size / z) (spot_of q.slots p.staged)) in
    ap (pairing p.size) (c.running_root-root.ensures ∙ ap root (own (goal.at.returns c).After-parent-parent))

pub slice_bounds-running_root-end : goal.slice_bounds-running_root-end
slice_bounds-running_root-end c = sym (disk-rooted c.args.host _ c.well_formed.0)

pub slice_bounds-running_root-end-2 : goal.slice_bounds-running_root-end-2
slice_bounds-running_root-end-2 c = sym (stage-rooted c.args.host _ c.well_formed.0)

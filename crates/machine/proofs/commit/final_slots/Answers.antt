-- `machine::commit::final_slots` meets its contract: kept slots in front, new ones behind them. Assumes nothing.
use Rattle.lists.proofs.Kit.{ap, ◌∙◌}
use Rattle.host.specs.Places.{taken}
use Rattle.machine.proofs.Laws.Filled.{final-made}
use Rattle.machine.proofs.commit.final_slots.Goals as goal

pub returns : goal.returns
returns c =
    final-made c.args.z c.args.disk c.args.places c.args.place c.args.size c.requires.disk_bound c.requires.z_bound c.cut-kept.ensures
    c.count-n.ensures.0 c.count-n.ensures.1 c.marked-taken.ensures
    (c.as_slice.ensures ∙ c.slots_taken-all.ensures.0 ∙ ap (taken c.args.z) c.replaced_in-after.ensures) c.first-keep.ensures c.new_slots.ensures

pub first-keep-requires : goal.first-keep-requires
first-keep-requires c = c.count-n.ensures.1

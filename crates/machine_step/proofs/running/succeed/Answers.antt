-- `machine_step::running::succeed` meets its contract: the effect, the roots, the progress, the root, then the record behind those written. Assumes nothing.
use Rattle.lists.proofs.Kit.{arith}
use Rattle.area.proofs.Laws.Lent.{lent}
use Rattle.machine_rules.specs.View.{Turn, turn, Volume, volume}
use Rattle.machine_step.proofs.Laws.Task.{counts}
use Rattle.machine_step.proofs.Laws.After as After
use Rattle.machine_step.proofs.Laws.Ran.{ran-is}
use Rattle.machine_step.proofs.running.succeed.Goals as goal
use Rattle.machine_step.proofs.running.succeed.Goals.{Start}

-- ---- what is known there
abbrev the-volume : Start → Volume
the-volume s = volume s.args.disk.now s.args.diskroots.now

abbrev the-turn : Start → Turn
the-turn s = turn s.args.progress s.args.stage.now s.args.output.now s.args.stageroots.now

-- ---- the rules
pub effect-staged-requires : goal.effect-staged-requires
effect-staged-requires c = record { stands = After.effect-asks _ (the-volume (goal.at.effect-staged-requires c).Start) (the-turn (goal.at.effect-staged-requires c).Start) _ _ _ c.requires c.parent-parent.ensures; len_in_bounds = (After.fit _ (the-volume (goal.at.effect-staged-requires c).Start) (the-turn (goal.at.effect-staged-requires c).Start) _ _ _ c.requires).source }

pub rehash-requires : goal.rehash-requires
rehash-requires c =
    After.rehash-asks _ (the-volume (goal.at.rehash-requires c).Start) (the-turn (goal.at.rehash-requires c).Start) _ _ _ c.requires
    (After.effect_is _ (the-volume (goal.at.rehash-requires c).Start) (the-turn (goal.at.rehash-requires c).Start) _ _ _ c.requires c.parent-parent.ensures c.effect-staged.ensures)

pub advanced-after-requires : goal.advanced-after-requires
advanced-after-requires c = let n = counts _ (the-volume (goal.at.advanced-after-requires c).Start) (the-turn (goal.at.advanced-after-requires c).Start) _ _ _ c.requires in
    record { ran_bound = n.0; cost_bound = n.1.0; count_bound = omega (arith, n.1.1, c.well_formed) }

pub running_root-root-requires : goal.running_root-root-requires
running_root-root-requires c =
    let e = After.effect_is _ (the-volume (goal.at.running_root-root-requires c).Start) (the-turn (goal.at.running_root-root-requires c).Start) _ _ _ c.requires c.parent-parent.ensures c.effect-staged.ensures in
    After.read-asks _ (the-volume (goal.at.running_root-root-requires c).Start) (the-turn (goal.at.running_root-root-requires c).Start) _ _ _ c.requires c.parent-parent.ensures
    (After.roots-are _ (the-volume (goal.at.running_root-root-requires c).Start) (the-turn (goal.at.running_root-root-requires c).Start) _ _ _ c.requires e c.rehash.ensures)
    (After.next-is _ (the-volume (goal.at.running_root-root-requires c).Start) (the-turn (goal.at.running_root-root-requires c).Start) _ _ _ c.requires e c.advanced-after.ensures)

pub put_success-requires : goal.put_success-requires
put_success-requires c =
    let e = After.effect_is _ (the-volume (goal.at.put_success-requires c).Start) (the-turn (goal.at.put_success-requires c).Start) _ _ _ c.requires c.parent-parent.ensures c.effect-staged.ensures in
    After.record-asks _ (the-volume (goal.at.put_success-requires c).Start) (the-turn (goal.at.put_success-requires c).Start) _ _ _ c.requires e
    (After.roots-are _ (the-volume (goal.at.put_success-requires c).Start) (the-turn (goal.at.put_success-requires c).Start) _ _ _ c.requires e c.rehash.ensures) c.reads-reads.ensures

pub returns : goal.returns
returns c =
    let e = After.effect_is _ (the-volume (goal.at.returns c).Start) (the-turn (goal.at.returns c).Start) _ _ _ c.requires c.parent-parent.ensures c.effect-staged.ensures in
    ran-is _ (the-volume (goal.at.returns c).Start) (the-turn (goal.at.returns c).Start) _ _ _ c.requires c.parent-parent.ensures e
    (After.roots-are _ (the-volume (goal.at.returns c).Start) (the-turn (goal.at.returns c).Start) _ _ _ c.requires e c.rehash.ensures) c.advanced-after.ensures c.running_root-root.ensures
    c.reads-reads.ensures (lent _ _ _ c.put_success.ensures)

pub slice_bounds-put_success-count : goal.slice_bounds-put_success-count
slice_bounds-put_success-count c =
    let s = (goal.at.slice_bounds-put_success-count c).Start in
    omega (arith, (counts _ (the-volume s) (the-turn s) _ _ _ c.requires).1.1)

pub slice_bounds-put_success-start : goal.slice_bounds-put_success-start
slice_bounds-put_success-start c =
    let s = (goal.at.slice_bounds-put_success-start c).Start in
    omega (arith, (counts _ (the-volume s) (the-turn s) _ _ _ c.requires).1.1)

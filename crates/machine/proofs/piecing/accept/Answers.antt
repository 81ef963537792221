-- `machine::piecing::accept` meets its contract: the piece behind the bytes already come, then instructions in turn. Assumes nothing.
use Rattle.lists.proofs.Kit.{refl, sym, ap, ◌∙◌, arith, length}
use Rattle.area.specs.Area.{put}
use Rattle.area.proofs.Laws.Parts.{part-whole}
use Rattle.area.proofs.Laws.Puts.{length-put}
use Rattle.host.specs.With.{with_program, with_came, with_progress, with_stage_roots}
use Rattle.host.proofs.Laws.Lengths.{hosted, disk-rooted, stage-rooted}
use Rattle.machine_rules.specs.View.{turn_of, with_run, volume_by}
use Rattle.machine_step.proofs.Laws.Hosts.{turns-right}
use Rattle.machine.proofs.Laws.Hosts.{input-long, accepted-is, declared-most}
use Rattle.machine.proofs.piecing.accept.Goals as goal

-- ---- the rules
pub copy_between-requires-clause-n_in_bounds_2 : goal.copy_between-requires-clause-n_in_bounds_2
copy_between-requires-clause-n_in_bounds_2 c = omega (arith, c.requires.fits, input-long c.args.host _ c.requires.inputs)

pub overflow_add-k : goal.overflow_add-k
overflow_add-k c =
    omega (arith, c.requires.fits, declared-most c.args.host c.requires.ready.order c.requires.ready.live)

pub run-progress-requires : goal.run-progress-requires
unfolding volume_by turn_of
run-progress-requires c =
    let h = c.args.host in
    turns-right h _ _ _ _ c.setting_of-setting.ensures (hosted h _ c.well_formed.0) (disk-rooted h _ c.well_formed.0) (stage-rooted h _ c.well_formed.0) c.requires.ready
    (ap length c.copy_between.ensures ∙ length-put _ _ _ ∙ input-long h _ c.requires.inputs) c.requires.outputs

pub returns : goal.returns
unfolding volume_by turn_of with_run with_stage_roots with_program with_progress with_came
returns c =
    accepted-is _ c.args.host _ _ _ _ c.setting_of-setting.ensures (c.copy_between.ensures ∙ ap (put _ _) (part-whole _ _ refl)) refl
    c.run-progress.ensures

pub slice_bounds-run-end : goal.slice_bounds-run-end
slice_bounds-run-end c = sym (disk-rooted c.args.host _ c.well_formed.0)

pub slice_bounds-run-end-2 : goal.slice_bounds-run-end-2
slice_bounds-run-end-2 c = sym (stage-rooted c.args.host _ c.well_formed.0)

-- `machine::interrupting::stop` meets its contract. Assumes nothing.
use Rattle.lists.proofs.Kit.{refl, sym, ap, ap₂, ◌∙◌, subst, List, ℕ, []}
use Rattle.area.specs.Area.{put}
use Rattle.host.specs.With.{with_program, with_came, with_progress, with_stage_roots}
use Rattle.host.proofs.Laws.Lengths.{disk-rooted}
use Rattle.machine_rules.specs.View.{turn_of, with_run, parent, volume, volume_by}
use Rattle.machine_rules.specs.Record.{starting_pair, failure_bytes}
use Rattle.machine_rules.specs.Roots.{root_by, root_of}
use Rattle.machine_rules.specs.Run.{failing, turned}
use Rattle.machine_rules.specs.Calls.{Interrupted, interrupted, stopped_by}
use Rattle.machine_sight.specs.Lookup.{Stands}
use Rattle.machine_step.proofs.Laws.Hosts.{stands}
use Rattle.machine.proofs.Laws.Hosts.{room-left}
use Rattle.host.specs.declared.Progress.{Progress}
use Rattle.machine_rules.specs.declared.Setting.{Setting}
use Rattle.machine.proofs.interrupting.stop.Goals as goal

pub fail-failed-requires : goal.fail-failed-requires
unfolding parent
fail-failed-requires c = let h = c.args.host in record {
  stands = subst (λ (x : Setting). Stands x.sector h.diskroots (parent x)) (sym c.setting_of-setting.ensures)
      (stands h _ (disk-rooted h _ c.well_formed.0) refl c.requires.order);
  written_in_bounds = room-left h c.requires;
}

pub returns : goal.returns
unfolding stopped_by failing turned volume_by turn_of with_run with_stage_roots with_program with_progress with_came failure_bytes starting_pair root_of root_by
returns c =
    let a = c.args in
    let e = c.fail-failed.ensures in
    let out : Setting → List ℕ = λ x. put a.output.now a.host.program.progress.written (failure_bytes x (volume [] a.host.diskroots) 20) in
    let left : Progress → List ℕ → Interrupted = λ p o. interrupted 0 p.tally (with_run a.host a.host.program.came p a.host.stageroots) o in
    let wrote : ℕ → List ℕ =
    λ n. put a.output.now a.host.program.progress.written (failure_bytes c.setting_of-setting.result (volume [] a.host.diskroots) n) in
    ap₂ left e.0 (e.1 ∙ ap wrote c.number-number.ensures ∙ ap out c.setting_of-setting.ensures)

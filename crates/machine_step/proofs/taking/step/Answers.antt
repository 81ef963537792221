-- `machine_step::taking::step` meets its contract: a failure by its number, or what its task leaves. Assumes nothing.
use Rattle.lists.proofs.Kit.{◌≡◌, refl, sym, ap, ◌∙◌, List, ℕ}
use Rattle.sia.proofs.Laws.Known.{known-instruction}
use Rattle.machine_rules.specs.View.{Turn, turn, Volume, volume}
use Rattle.machine_rules.specs.Roots.{root_at, kept_root}
use Rattle.machine_rules.specs.Plan.{refused}
use Rattle.machine_rules.specs.declared.Spot.{Spot}
use Rattle.machine_plan.specs.Planned.{Said, failed, plan_of}
use Rattle.machine_plan.proofs.Laws.Planned.{counted}
use Rattle.machine_step.proofs.Laws.Readers.{reads_kept}
use Rattle.machine_step.proofs.Laws.Known.{known-setting}
use Rattle.machine_step.proofs.Laws.Task.{number_is}
use Rattle.machine_step.proofs.Laws.Taking.{plans, parent-stands, failure-fits, step-fails}
use Rattle.machine_step.proofs.taking.step.Goals as goal
use Rattle.machine_step.proofs.taking.step.Goals.{Start}

abbrev the-volume : Start → Volume
the-volume s = volume s.args.disk.now s.args.diskroots.now

abbrev the-turn : Start → Turn
the-turn s = turn s.args.progress s.args.stage.now s.args.output.now s.args.stageroots.now

-- what is answered, with the setting's roots
planned-is : (s : Start) {r : Said} → let a = s.args in
    r ≡ plan_of a.setting (kept_root a.diskroots.now a.stageroots.now) a.progress a.i a.input.now
    → r ≡ plan_of a.setting (root_at a.setting (the-volume s) (the-turn s)) a.progress a.i a.input.now
planned-is s e =
    let a = s.args in
    e ∙ ap (λ (f : Spot → List ℕ). plan_of a.setting f a.progress a.i a.input.now)
    (sym (reads_kept a.setting (the-volume s) a.stage.now a.stageroots.now refl))

-- ---- the rules
pub planned-requires : goal.planned-requires
planned-requires c =
    let s = (goal.at.planned-requires c).Start in
    record { plans = plans _ (the-volume s) (the-turn s) _ c.requires; good = c.requires.good; input_len = c.requires.input }

pub fail-requires : goal.fail-requires
fail-requires c =
    let s = (goal.at.fail-requires c).Start in
    record {
      stands = parent-stands _ (the-volume s) (the-turn s) _ c.requires;
      written_in_bounds = failure-fits _ (the-volume s) (the-turn s) _ c.requires;
    }

pub returns-in-Err : goal.returns-in-Err
unfolding failed refused
returns-in-Err c =
    let s = (goal.at.returns-in-Err c).Start in
    let f = c.fail.ensures in
    let number = number_is _ (the-volume s) (the-turn s) _ c.args.i _ (planned-is s c.in-Err.ensures) in
    step-fails _ (the-volume s) (the-turn s) _ c.args.i refl (c.number.ensures ∙ number)
    (λ z. counted c.in-Err.failure (sym c.number.ensures ∙ z)) f.0 f.1

pub succeed-requires : goal.succeed-requires
succeed-requires c =
    record {
      steps = c.requires;
      told = planned-is (goal.at.succeed-requires c).Start c.in-Ok.ensures;
      operands = (known-instruction c.args.i _ c.well_formed.1.1.1.1.0).1;
      small = (known-setting c.args.setting _ c.well_formed.0).0;
    }

pub returns-in-Ok : goal.returns-in-Ok
returns-in-Ok c = c.succeed.ensures

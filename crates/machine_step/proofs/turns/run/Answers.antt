-- `machine_step::running::run` meets its contract: each turn is the run's next, and as many are left as there are instructions. Assumes nothing.
use Rattle.lists.proofs.Kit.{◌≡◌, refl, sym, ◌∙◌, true, ◌<◌, arith, get_or}
use Rattle.machine_rules.specs.View.{Turn, turn}
use Rattle.machine_rules.specs.declared.Setting.{Setting}
use Rattle.machine_rules.specs.Run.{current, going, ready}
use Rattle.machine_step.proofs.Laws.Known.{known-setting}
use Rattle.machine_step.proofs.Laws.Turns.{turn_is, steps-turn, goes, waits, ends, few-ran, steps, further, fewer, ended}
use Rattle.sia.specs.declared.Instruction.{Instruction}
use Rattle.machine_step.proofs.turns.run.Goals as goal
use Rattle.machine_step.proofs.turns.run.Goals.{Else-not-ready, In-loop-setting}

abbrev the-set : In-loop-setting → Setting
the-set c = c.args.setting

abbrev the-turn : In-loop-setting → Turn
the-turn c = let l = c.loop-setting in turn l.progress l.stage l.output l.stageroots

-- the program goes on
on : (c : In-loop-setting) → going (the-set c).terms (the-turn c).progress ≡ true
unfolding going
on c = sym c.goes_on.ensures ∙ c.loop-setting-test.true

below : (c : In-loop-setting) → (the-turn c).progress.ran < 32
below c = few-ran (the-set c) _ (the-turn c) _ c.loop-setting.invariant.kept (on c)

-- the entry that is read is the instruction whose turn it is
its : (c : In-loop-setting) (d : Instruction)
    → get_or (the-set c).terms.head.instructions (the-turn c).progress.ran d ≡ current (the-set c) (the-turn c)
its c d =
    let long = (known-setting (the-set c) _ c.well_formed.0).1 in
    turn_is (the-set c) (the-turn c) d (omega (arith, long, below c))

-- its need has come
told : (c : Else-not-ready) → ready (the-set (goal.at.Else-not-ready c).In-loop-setting) c.args.k (the-turn (goal.at.Else-not-ready c).In-loop-setting) ≡ true
told c =
    goes (the-set (goal.at.Else-not-ready c).In-loop-setting) _ (the-turn (goal.at.Else-not-ready c).In-loop-setting) (its (goal.at.Else-not-ready c).In-loop-setting _) (on (goal.at.Else-not-ready c).In-loop-setting) (sym c.ready.ensures ∙ c.if-not-ready.false)

-- ---- the rules
pub loop-setting-init : goal.loop-setting-init
loop-setting-init c =
    record { ends = refl; kept = c.requires }

pub shape_of-stageroots-then-not-ready : goal.shape_of-stageroots-then-not-ready
shape_of-stageroots-then-not-ready c = c.loop-setting.invariant.kept.stageroots ∙ sym c.requires.stageroots

pub shape_of-stage-then-not-ready : goal.shape_of-stage-then-not-ready
shape_of-stage-then-not-ready c = c.loop-setting.invariant.kept.stage ∙ sym c.requires.stage

pub shape_of-output-then-not-ready : goal.shape_of-output-then-not-ready
shape_of-output-then-not-ready c = c.loop-setting.invariant.kept.output ∙ sym c.requires.output

pub returns-then-not-ready : goal.returns-then-not-ready
returns-then-not-ready c =
    ended _ _ _ _ _ _ c.loop-setting.invariant
    (waits (the-set (goal.at.returns-then-not-ready c).In-loop-setting) _ (the-turn (goal.at.returns-then-not-ready c).In-loop-setting) (its (goal.at.returns-then-not-ready c).In-loop-setting _) (sym c.ready.ensures ∙ c.if-not-ready.true))

pub step-progress-requires : goal.step-progress-requires
step-progress-requires c =
    steps (the-set (goal.at.step-progress-requires c).In-loop-setting) _ _ _ (the-turn (goal.at.step-progress-requires c).In-loop-setting) c.loop-setting.invariant.kept (told (goal.at.step-progress-requires c).Else-not-ready)

pub loop-setting-smaller : goal.loop-setting-smaller
loop-setting-smaller c =
    fewer (the-set (goal.at.loop-setting-smaller c).In-loop-setting) _ _ _ (the-turn (goal.at.loop-setting-smaller c).In-loop-setting) (told (goal.at.loop-setting-smaller c).Else-not-ready) (steps-turn (the-set (goal.at.loop-setting-smaller c).In-loop-setting) _ _ (the-turn (goal.at.loop-setting-smaller c).In-loop-setting) (its (goal.at.loop-setting-smaller c).In-loop-setting _) c.step-progress.ensures)

pub loop-setting-preserved : goal.loop-setting-preserved
loop-setting-preserved c =
    further (the-set (goal.at.loop-setting-preserved c).In-loop-setting) _ _ _ _ (the-turn (goal.at.loop-setting-preserved c).In-loop-setting) c.loop-setting.invariant (told (goal.at.loop-setting-preserved c).Else-not-ready)
    (steps-turn (the-set (goal.at.loop-setting-preserved c).In-loop-setting) _ _ (the-turn (goal.at.loop-setting-preserved c).In-loop-setting) (its (goal.at.loop-setting-preserved c).In-loop-setting _) c.step-progress.ensures)

-- at the end of the loop
pub returns : goal.returns
unfolding going
returns c =
    ended _ _ _ _ _ _ c.loop-setting.invariant (ends _ _ _ (sym c.goes_on.ensures ∙ c.loop-setting-test.false))

pub offset_bounds-head-progress : goal.offset_bounds-head-progress
offset_bounds-head-progress c = omega (arith, below c)

pub bounds-head-progress : goal.bounds-head-progress
bounds-head-progress c = below c

pub shape_of-stageroots : goal.shape_of-stageroots
shape_of-stageroots c = c.loop-setting.invariant.kept.stageroots ∙ sym c.requires.stageroots

pub shape_of-stage : goal.shape_of-stage
shape_of-stage c = c.loop-setting.invariant.kept.stage ∙ sym c.requires.stage

pub shape_of-output : goal.shape_of-output
shape_of-output c = c.loop-setting.invariant.kept.output ∙ sym c.requires.output

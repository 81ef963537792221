-- What a program that is going on a host in order gives the functions that take its instruction, and how a step comes to its failure.
-- Assumes nothing.
use Rattle.lists.proofs.Kit.{◌≡◌, sym, ap, ap₂, ◌∙◌, List, [], ℕ, ◌+◌, ◌≤◌, ◌<◌, arith, length}
use Rattle.lists.proofs.Laws.Pick.{skips}
use Rattle.area.specs.Area.{put}
use Rattle.machine_rules.specs.View.{kept, volume, Turn, turn, parent, Volume}
use Rattle.machine_rules.specs.declared.Setting.{Setting}
use Rattle.machine_rules.specs.Roots.{root_by, root_of, root_at}
use Rattle.machine_rules.specs.Inputs.{inputs_of}
use Rattle.machine_rules.specs.Plan.{judged}
use Rattle.machine_rules.specs.Record.{pair_of, starting_pair, record_bytes, failure_bytes}
use Rattle.machine_rules.specs.Run.{failed_progress, failing, turned}
use Rattle.machine_rules.proofs.Laws.Passed.{stepped-failed}
use Rattle.machine_rules.proofs.Laws.Spots.{whose-every}
use Rattle.machine_rules.proofs.Laws.Steps.{not-failed, left-going}
use Rattle.machine_sight.specs.Seen.{holds}
use Rattle.machine_sight.specs.Lookup.{Stands, Seeks}
use Rattle.machine_sight.proofs.Looks.{program-seeks}
use Rattle.machine_plan.specs.Planned.{Plans}
use Rattle.host.proofs.Laws.Whose.{whose-order}
use Rattle.machine_step.specs.Asks.{Steps, stepped_turn}
use Rattle.machine_step.proofs.Laws.Sights.{within_count}
use Rattle.machine_step.proofs.Laws.Readers.{reads_kept}
use Rattle.sia.specs.declared.Instruction.{Instruction}
use Rattle.host.specs.declared.Progress.{Progress}
use Rattle.machine_rules.specs.declared.Spot.{Spot}

module _ (s : Setting) (vol : Volume) (t : Turn) (input : List ℕ) (x : Steps s vol t input) where
  -- what a look-up asks
  seeks : Seeks s.sector vol.roots t.roots s.places s.terms.head.contract t.progress.staged t.progress.size
  seeks = program-seeks s vol vol.roots x.solid x.diskroots t.roots x.stageroots t.progress x.good

  -- what a plan asks
  pub plans : Plans s t.progress vol.roots t.roots
  plans = record {
    lent = x.solid.lent;
    sources = record { seeks = seeks; disk = omega (arith, x.diskroots); stage = omega (arith, x.stageroots) };
  }

  -- the parent stands
  pub parent-stands : Stands s.sector vol.roots (parent s)
  unfolding parent
  parent-stands = record {
    size = x.solid.lent.size;
    order = whose-order s.sector s.terms.head.contract s.places x.solid.small;
    slots = whose-every (holds 32 vol.roots) s.sector s.terms.head.contract s.places seeks.stand.slots;
  }

  -- there is room for a failure
  pub failure-fits : t.progress.written + 72 ≤ length t.output
  failure-fits = omega (arith, x.good.orderly.fits, x.output, skips {A = ℕ} t.progress.failed 0 72 (not-failed s t x.going))

  pub ran-below : t.progress.ran < 32
  ran-below = omega (arith, (left-going s t x.going).1, within_count s vol t x)

-- a failure, from what its function left
pub step-fails : (s : Setting) (vol : Volume) (t : Turn) (input : List ℕ) (i : Instruction) {n : ℕ} {g : Progress} {out : List ℕ} → vol.way ≡ kept
    → n ≡ judged s (root_at s vol t) t.progress i (inputs_of i input) → (n ≡ 0 → ⊥) → g ≡ failed_progress t.progress
    → out ≡ put t.output t.progress.written (failure_bytes s (volume [] vol.roots) n)
    → turn g t.stage out t.roots ≡ stepped_turn s vol i input t
unfolding turned failing failure_bytes starting_pair root_of root_by
step-fails s vol t input i {n} way number other p o =
    let same = reads_kept s vol [] [] way in
    ap₂ (λ (g : Progress) (l : List ℕ). turn g t.stage l t.roots) p
    (o ∙ ap₂ (λ (f : Spot → List ℕ) (m : ℕ). put t.output t.progress.written (record_bytes m 0 (pair_of s.sector f (parent s)) 0 [] 0 []))
    (sym same) number)
    ∙ ap (turned t) (sym (stepped-failed s vol i (inputs_of i input) t (λ e. other (number ∙ e))))

-- The last record shows the running pair: each instruction that succeeds writes the pair that it leaves. Assumes nothing.
use Rattle.lists.proofs.Laws.Pick.{by, never, skips}
use Rattle.lists.proofs.Laws.Ways.{either_way}
use Rattle.machine_rules.specs.Roots.{root_at}
use Rattle.lists.proofs.Kit.{◌≡◌, sym, ap, ◌∙◌, false, List, [], ◌++◌, ℕ, zero, suc, ◌≤◌, ◌<◌, arith, length, take, take-append_seam}
use Rattle.area.specs.Area.{part}
use Rattle.area.specs.Little.{bytes_of, le8}
use Rattle.host.specs.With.{with_program, with_came, with_progress, with_stage_roots}
use Rattle.machine_rules.specs.View.{Turn, turn_of, with_run, Volume, setting_of, volume_by, volume_of}
use Rattle.machine_rules.specs.declared.Setting.{Setting}
use Rattle.machine_rules.specs.Inputs.{inputs_of}
use Rattle.machine_rules.specs.Record.{pairing, running_pair, record_bytes, success_bytes}
use Rattle.machine_rules.specs.Run.{failed_progress, failing, succeeding, stepped, current, step, ready, runs, run, turned}
use Rattle.machine_rules.specs.Calls.{reached_pair_by, reached_by}
use Rattle.machine_rules.specs.Visit.{Areas}
use Rattle.machine_rules.specs.Trace.{left_by, made, after, recorded, trail, first_records, last_of, running}
use Rattle.machine_rules.specs.Demand2.{Tells}
use Rattle.machine_rules.proofs.Laws.Passed.{stepped-either}
use Rattle.machine_rules.proofs.Laws.Steps.{runs-zero, runs-go, runs-stop}
use Rattle.machine_rules.proofs.Laws.Trails.{trail-zero, trail-go, trail-stop}
use Rattle.machine_rules.proofs.Laws.Lengths.{length-root}
use Rattle.machine_rules.proofs.Records.{first-records}
use Rattle.sia.specs.declared.Instruction.{Instruction}
use Rattle.machine_rules.proofs.Laws.Refusals.{numbered}
use Rattle.host.specs.declared.Host.{Host}
use Rattle.machine_rules.specs.declared.Pair.{Pair}
use Rattle.machine_rules.specs.Calls.{Reached}

abbrev shown : Pair → List ℕ
shown pair = le8 pair.size ++ pair.root

-- "number (0 if it succeeded), cost, new size (8 each), new root (32)"
record-shows : (number cost : ℕ) (pair : Pair) (hashes : ℕ) (proof : List ℕ) (count : ℕ) (output : List ℕ) → length pair.root ≡ 32
    → part (record_bytes number cost pair hashes proof count output) 16 40 ≡ shown pair
unfolding record_bytes part bytes_of
record-shows number cost pair hashes proof count output e =
    let rest = le8 hashes ++ (proof ++ (le8 count ++ output)) in
    ap (λ (l : List ℕ). le8 pair.size ++ l) (ap (λ (n : ℕ). take n (pair.root ++ rest)) (sym e) ∙ take-append_seam pair.root rest)

module _ (s : Setting) (vol : Volume) where
  -- what a turn shows
  abbrev shows : Turn → List ℕ
  shows t = shown (running_pair s (root_at s vol t) t.progress)

  stepped-shows : (i : Instruction) (l : List (List ℕ)) (t : Turn) → (stepped s vol i l t).progress.failed ≡ false
      → part (stepped s vol i l t).bytes 16 40 ≡ shows (turned t (stepped s vol i l t))
  unfolding succeeding failing turned failed_progress success_bytes running_pair
  stepped-shows i l t =
      stepped-either s vol i l t (λ x. x.progress.failed ≡ false → part x.bytes 16 40 ≡ shows (turned t x))
      (λ _ _. record-shows 0 _ _ _ _ _ _ (length-root _ _)) (λ _ f. never f)

  module _ (a : List ℕ) (k : ℕ) where
    step-shows : (t : Turn) → (step s vol a t).progress.failed ≡ false → part (recorded s vol a t) 16 40 ≡ shows (step s vol a t)
    unfolding step turned recorded
    step-shows t = stepped-shows (current s t) (inputs_of (current s t) a) t

    -- r shows what the turn before shows, if that has not failed
    runs_last : (n : ℕ) (t : Turn) (r : List ℕ) → (t.progress.failed ≡ false → part r 16 40 ≡ shows t)
        → (runs s vol a k n t).progress.failed ≡ false → part (last_of r (trail s vol a k n t)) 16 40 ≡ shows (runs s vol a k n t)
    unfolding last_of
    runs_last zero t r h f =
        ap (λ (l : List (List ℕ)). part (last_of r l) 16 40) (trail-zero s vol a k t)
        ∙ h (ap (λ (x : Turn). x.progress.failed) (sym (runs-zero s vol a k t)) ∙ f) ∙ ap shows (sym (runs-zero s vol a k t))
    runs_last (suc n) t r h f =
        by (ready s k t)
        (λ e. let go = runs-go s vol a k n t e in
        ap (λ (l : List (List ℕ)). part (last_of r l) 16 40) (trail-go s vol a k n t e)
        ∙ runs_last n (step s vol a t) (recorded s vol a t) (step-shows t) (ap (λ (x : Turn). x.progress.failed) (sym go) ∙ f)
        ∙ ap shows (sym go))
        (λ e. let stop = runs-stop s vol a k (suc n) t e in
        ap (λ (l : List (List ℕ)). part (last_of r l) 16 40) (trail-stop s vol a k (suc n) t e)
        ∙ h (ap (λ (x : Turn). x.progress.failed) (sym stop) ∙ f) ∙ ap shows (sym stop))

    runs-shows : (n : ℕ) (t : Turn) → 0 < length (trail s vol a k n t) → (runs s vol a k n t).progress.failed ≡ false
        → part (last_of [] (trail s vol a k n t)) 16 40 ≡ shows (runs s vol a k n t)
    unfolding last_of
    runs-shows zero t some f = absurd (omega (arith, ap length (trail-zero s vol a k t)))
    runs-shows (suc n) t some f =
        by (ready s k t)
        (λ e. let go = runs-go s vol a k n t e in
        ap (λ (l : List (List ℕ)). part (last_of [] l) 16 40) (trail-go s vol a k n t e)
        ∙ runs_last n (step s vol a t) (recorded s vol a t) (step-shows t) (ap (λ (x : Turn). x.progress.failed) (sym go) ∙ f)
        ∙ ap shows (sym go))
        (λ e. absurd (omega (arith, ap length (trail-stop s vol a k (suc n) t e))))

module _ (h : Host) (a : Areas) (all : List ℕ) (k : ℕ) (le : k ≤ h.program.terms.head.length) where
  -- at least one instruction ran, and none failed
  pub after-shows : 0 < length (first_records h a all k) → let w = after h a all k in w.host.program.progress.failed ≡ false
      → part (last_of [] (first_records h a all k)) 16 40 ≡ shown (running w.host (left_by a w))
  unfolding after made run volume_by turn_of with_run with_stage_roots with_program with_progress with_came
  after-shows some f =
      let s = setting_of h in
      let vol = volume_of h a.disk in
      let u = turn_of h a.stage a.output in
      let q = first-records h a all k le in
      ap (λ (l : List (List ℕ)). part (last_of [] l) 16 40) q
      ∙ runs-shows s vol all k h.program.terms.head.count u (omega (arith, some, ap length q)) f

-- ---- the call that tells it

pub tells : (h : Host) (a : Areas) → Tells h a
unfolding reached_by reached_pair_by
tells h a =
    let way = either_way (λ (r : Reached). r.number ≡ 0 → h.program.progress.failed ≡ false → pairing r.size r.root ≡ running h a) in
    way _ _ _ (λ t e. absurd (omega (arith, numbered h _ t))) (λ _ _ good. skips _ _ _ good)

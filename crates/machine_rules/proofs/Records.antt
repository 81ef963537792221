-- After pieces the output area holds the first m records of the whole data's run: by induction on the run, each record stands behind the
-- last. Assumes nothing.
use Rattle.lists.specs.Pick.{pick}
use Rattle.lists.proofs.Laws.Pick.{by}
use Rattle.lists.proofs.Kit.{◌≡◌, refl, sym, ap, ap₂, ◌∙◌, Bool, true, false, List, ℕ, zero, suc, ◌+◌, ◌*◌, ◌≤◌, arith, length, take, length-append}
use Rattle.area.specs.Area.{put}
use Rattle.area.proofs.Laws.Puts.{put-nil, put-append}
use Rattle.host.specs.With.{with_program, with_came, with_progress, with_stage_roots}
use Rattle.machine_rules.specs.View.{Turn, turn_of, with_run, Volume, setting_of, volume_by, volume_of}
use Rattle.machine_rules.specs.declared.Setting.{Setting}
use Rattle.machine_rules.specs.Inputs.{inputs_of}
use Rattle.machine_rules.specs.Run.{failed_progress, failing, ran_progress, succeeding, stepped, current, step, going, ready, runs, run, turned}
use Rattle.machine_rules.specs.Visit.{Areas}
use Rattle.machine_rules.specs.Trace.{together, lent_to, made, after, recorded, trail, met, first_records, records_in, whole_run_by}
use Rattle.machine_rules.specs.Facts.{Good, Lent, Solid}
use Rattle.machine_rules.proofs.Laws.Passed.{stepped-either}
use Rattle.machine_rules.proofs.Laws.Steps.{runs-zero, runs-go, runs-stop, ready-going, not-failed}
use Rattle.machine_rules.proofs.Laws.Trails.{trail-zero, trail-go, trail-stop, firsts, counted}
use Rattle.machine_rules.proofs.Laws.Kept.{stepped-good}
use Rattle.machine_rules.proofs.Laws.Areas.{stepped-alike}
use Rattle.machine_rules.proofs.Laws.Taking.{Taking, order-good, order-solid, areas-stage}
use Rattle.machine_rules.proofs.Laws.Lengths.{stepped-written}
use Rattle.sia.specs.declared.Instruction.{Instruction}
use Rattle.host.specs.declared.Progress.{Progress}
use Rattle.host.specs.declared.Host.{Host}

step-written : (s : Setting) (vol : Volume) (a : List ℕ) (t : Turn) → Solid s vol → Good s t.progress → length t.stage ≡ s.stagesectors * s.sector
    → length vol.roots ≡ 2048 → length t.roots ≡ 512
    → (step s vol a t).progress.written ≡ t.progress.written + length (recorded s vol a t)
unfolding step turned recorded
step-written s vol a t solid g e d c = stepped-written s vol (current s t) (inputs_of (current s t) a) t solid g e d c

step-output : (s : Setting) (vol : Volume) (a : List ℕ) (t : Turn)
    → (step s vol a t).output ≡ put t.output t.progress.written (recorded s vol a t)
unfolding step turned recorded
step-output s vol a t = refl

step-good : (s : Setting) (vol : Volume) (a : List ℕ) (t : Turn) → Lent s → going s.terms t.progress ≡ true → Good s t.progress
    → Good s (step s vol a t).progress
unfolding step turned
step-good s vol a t L h g = stepped-good s vol (current s t) (inputs_of (current s t) a) t L h g

step-stage : (s : Setting) (vol : Volume) (a : List ℕ) (t : Turn) → length (step s vol a t).stage ≡ length t.stage
unfolding step
step-stage s vol a t = (stepped-alike s vol (current s t) (inputs_of (current s t) a) t).stage

step-roots : (s : Setting) (vol : Volume) (a : List ℕ) (t : Turn) → length (step s vol a t).roots ≡ length t.roots
unfolding step
step-roots s vol a t = (stepped-alike s vol (current s t) (inputs_of (current s t) a) t).roots

-- how many instructions have left a record
abbrev counts : Progress → ℕ
counts p = p.ran + pick p.failed 1 0

-- "Records are written from the first free byte of the output area onward."
pub runs-bytes : (s : Setting) (vol : Volume) (a : List ℕ) (k n : ℕ) (t : Turn) → Solid s vol → Good s t.progress
    → length t.stage ≡ s.stagesectors * s.sector → length vol.roots ≡ 2048 → length t.roots ≡ 512
    → (runs s vol a k n t).output ≡ put t.output t.progress.written (together (trail s vol a k n t))
unfolding together
runs-bytes s vol a k zero t solid g e d c =
    ap (λ (x : Turn). x.output) (runs-zero s vol a k t)
    ∙ sym (ap (λ (l : List (List ℕ)). put t.output t.progress.written (together l)) (trail-zero s vol a k t)
    ∙ put-nil t.output t.progress.written)
runs-bytes s vol a k (suc n) t solid g e d c =
    by (ready s k t)
    (λ r.
    let rest = together (trail s vol a k n (step s vol a t)) in
    ap (λ (x : Turn). x.output) (runs-go s vol a k n t r)
    ∙ runs-bytes s vol a k n (step s vol a t) solid (step-good s vol a t solid.lent (ready-going s k t r) g) (step-stage s vol a t ∙ e) d
    (step-roots s vol a t ∙ c)
    ∙ ap₂ (λ (d : List ℕ) (m : ℕ). put d m rest) (step-output s vol a t) (step-written s vol a t solid g e d c)
    ∙ put-append t.output t.progress.written (recorded s vol a t) rest _ refl
    ∙ ap (λ (l : List (List ℕ)). put t.output t.progress.written (together l)) (sym (trail-go s vol a k n t r)))
    (λ r.
    ap (λ (x : Turn). x.output) (runs-stop s vol a k (suc n) t r)
    ∙ sym (ap (λ (l : List (List ℕ)). put t.output t.progress.written (together l)) (trail-stop s vol a k (suc n) t r)
    ∙ put-nil t.output t.progress.written))

-- and as many bytes are written as they have
runs-length : (s : Setting) (vol : Volume) (a : List ℕ) (k n : ℕ) (t : Turn) → Solid s vol → Good s t.progress
    → length t.stage ≡ s.stagesectors * s.sector → length vol.roots ≡ 2048 → length t.roots ≡ 512
    → (runs s vol a k n t).progress.written ≡ t.progress.written + length (together (trail s vol a k n t))
unfolding together
runs-length s vol a k zero t solid g e d c =
    let none = ap (λ (l : List (List ℕ)). length (together l)) (trail-zero s vol a k t) in
    omega (arith, ap (λ (x : Turn). x.progress.written) (runs-zero s vol a k t), none)
runs-length s vol a k (suc n) t solid g e d c =
    by (ready s k t)
    (λ r.
    let rest = together (trail s vol a k n (step s vol a t)) in
    let next = step-good s vol a t solid.lent (ready-going s k t r) g in
    let on = runs-length s vol a k n (step s vol a t) solid next (step-stage s vol a t ∙ e) d (step-roots s vol a t ∙ c) in
    let all = ap (λ (l : List (List ℕ)). length (together l)) (trail-go s vol a k n t r) in
    let go = ap (λ (x : Turn). x.progress.written) (runs-go s vol a k n t r) in
    omega (arith, go, on, step-written s vol a t solid g e d c, all, length-append (recorded s vol a t) rest))
    (λ r.
    let none = ap (λ (l : List (List ℕ)). length (together l)) (trail-stop s vol a k (suc n) t r) in
    omega (arith, ap (λ (x : Turn). x.progress.written) (runs-stop s vol a k (suc n) t r), none))

-- ---- their count

stepped-counts : (s : Setting) (vol : Volume) (i : Instruction) (l : List (List ℕ)) (t : Turn) → t.progress.failed ≡ false
    → counts (stepped s vol i l t).progress ≡ counts t.progress + 1
unfolding succeeding failing ran_progress failed_progress pick
stepped-counts s vol i l t f =
    let bit = ap {B = ℕ} (λ (b : Bool). pick b 1 0) f in
    stepped-either s vol i l t (λ x. counts x.progress ≡ counts t.progress + 1) (λ _. omega (arith, bit)) (λ _. omega (arith, bit))

step_counts : (s : Setting) (vol : Volume) (a : List ℕ) (k : ℕ) (t : Turn) → ready s k t ≡ true
    → counts (step s vol a t).progress ≡ counts t.progress + 1
unfolding step turned
step_counts s vol a k t r = stepped-counts s vol (current s t) (inputs_of (current s t) a) t (not-failed s t (ready-going s k t r))

runs-counts : (s : Setting) (vol : Volume) (a : List ℕ) (k n : ℕ) (t : Turn)
    → counts (runs s vol a k n t).progress ≡ counts t.progress + length (trail s vol a k n t)
runs-counts s vol a k zero t =
    omega (arith, ap (λ (x : Turn). counts x.progress) (runs-zero s vol a k t), ap length (trail-zero s vol a k t))
runs-counts s vol a k (suc n) t =
    by (ready s k t)
    (λ r.
    let go = ap (λ (x : Turn). counts x.progress) (runs-go s vol a k n t r) in
    omega (arith, go, ap length (trail-go s vol a k n t r), runs-counts s vol a k n (step s vol a t), step_counts s vol a k t r))
    (λ r.
    let stop = ap (λ (x : Turn). counts x.progress) (runs-stop s vol a k (suc n) t r) in
    omega (arith, stop, ap length (trail-stop s vol a k (suc n) t r)))

module _ (h : Host) (a : Areas) (all : List ℕ) (k : ℕ) (le : k ≤ h.program.terms.head.length) where
  -- the records with k bytes come are the first m
  pub first-records : first_records h a all k
      ≡ trail (setting_of h) (volume_of h a.disk) all k h.program.terms.head.count (turn_of h a.stage a.output)
  unfolding met whole_run_by volume_by turn_of
  first-records =
      let s = setting_of h in
      let vol = volume_of h a.disk in
      let u = turn_of h a.stage a.output in
      let n = h.program.terms.head.count in
      ap (λ (m : ℕ). take m (trail s vol all h.program.terms.head.length n u)) (sym (counted s vol all k n u))
      ∙ firsts s vol all k h.program.terms.head.length u le

  pub after-count : h.program.progress.ran ≡ 0 → h.program.progress.failed ≡ false
      → records_in (after h a all k).host ≡ met h a all k
  unfolding after made run volume_by turn_of with_run with_stage_roots with_program with_progress with_came met whole_run_by pick
  after-count none good =
      let s = setting_of h in
      let vol = volume_of h a.disk in
      let u = turn_of h a.stage a.output in
      let n = h.program.terms.head.count in
      let bit = ap {B = ℕ} (λ (b : Bool). pick b 1 0) good in
      omega (arith, none, bit, runs-counts s vol all k n u, counted s vol all k n u)

  module _ (t : Taking a.disk (lent_to h a)) (none_written : h.program.progress.written ≡ 0) where
    pub after-output : (after h a all k).output ≡ put a.output 0 (together (first_records h a all k))
    unfolding after made run volume_by turn_of
    after-output =
        let b = runs-bytes (setting_of h) (volume_of h a.disk) all k h.program.terms.head.count (turn_of h a.stage a.output)
        (order-solid h a.disk a.stage t.order t.areas) (order-good h t.order t.live t.entries)
        (areas-stage h a.disk a.stage t.areas) t.disk_roots t.stage_roots in
        b ∙ ap₂ (λ (m : ℕ) (l : List (List ℕ)). put a.output m (together l)) none_written (sym first-records)

    pub after-written : (after h a all k).host.program.progress.written ≡ length (together (first_records h a all k))
    unfolding after made run volume_by turn_of with_run with_stage_roots with_program with_progress with_came
    after-written =
        let b = runs-length (setting_of h) (volume_of h a.disk) all k h.program.terms.head.count (turn_of h a.stage a.output)
        (order-solid h a.disk a.stage t.order t.areas) (order-good h t.order t.live t.entries)
        (areas-stage h a.disk a.stage t.areas) t.disk_roots t.stage_roots in
        omega (arith, b, none_written, ap (λ (l : List (List ℕ)). length (together l)) first-records)

-- The records of a run: with k bytes come they are the first m of the whole run's, m counted by the rules. Assumes nothing.
use Rattle.lists.proofs.Kit.{◌≡◌, refl, sym, ap, ap₂, ◌∙◌, true, false, not, List, [], ◌∷◌, ◌++◌, ℕ, zero, suc, ◌+◌, ◌≤◌, min, arith, length, take}
use Rattle.lists.proofs.Kit.{take-append_seam, leb, ltb, eqb, leb-true, ltb-false, le-leb}
use mathlib.Core.Logic.{◌⊎◌, inl, inr, ⊎_elim}
use Rattle.lists.specs.Pick.{pick}
use Rattle.lists.specs.Tests.{some}
use Rattle.lists.proofs.Laws.Pick.{by, picks, skips, both-join, both-not-left, both-not-right}
use Rattle.sia.specs.Encode.{operands_in}
use Rattle.machine_rules.specs.View.{Turn, Volume}
use Rattle.machine_rules.specs.declared.Setting.{Setting}
use Rattle.machine_rules.specs.Inputs.{ill_formed, past_end, largest, need, inputs_of}
use Rattle.machine_rules.specs.Run.{failed_progress, failing, ran_progress, succeeding, stepped, current, step, going, ready, runs, turned}
use Rattle.machine_rules.specs.Trace.{recorded, trail, ripe}
use Rattle.machine_rules.proofs.Laws.Passed.{stepped-either}
use Rattle.machine_rules.proofs.Laws.Steps.{runs-go, runs-stop, left, left-most, step_left, none_left, ready-more}
use Rattle.sia.specs.declared.Operand.{Operand}
use Rattle.sia.specs.declared.Instruction.{Instruction}

module _ (s : Setting) (vol : Volume) (a : List ℕ) where
  pub trail-zero : (k : ℕ) (t : Turn) → trail s vol a k 0 t ≡ []
  unfolding trail
  trail-zero k t = refl

  pub trail-go : (k n : ℕ) (t : Turn) → ready s k t ≡ true → trail s vol a k (suc n) t ≡ recorded s vol a t ∷ trail s vol a k n (step s vol a t)
  unfolding trail
  trail-go k n t h = picks (ready s k t) _ [] h

  pub trail-stop : (k n : ℕ) (t : Turn) → ready s k t ≡ false → trail s vol a k n t ≡ []
  unfolding trail
  trail-stop k zero t h = refl
  trail-stop k (suc n) t h = skips (ready s k t) _ [] h

  trail-enough : (k n : ℕ) (t : Turn) → left s t ≤ n → trail s vol a k (suc n) t ≡ trail s vol a k n t
  trail-enough k zero t h = trail-stop k 1 t (none_left s k t (omega arith)) ∙ sym (trail-stop k 0 t (none_left s k t (omega arith)))
  trail-enough k (suc n) t h =
      by (ready s k t)
      (λ r. let d = step_left s vol a k t r in
      trail-go k (suc n) t r ∙ ap (λ (x : List (List ℕ)). recorded s vol a t ∷ x) (trail-enough k n (step s vol a t) (omega arith)) ∙ sym (trail-go k n t r))
      (λ r. trail-stop k (suc (suc n)) t r ∙ sym (trail-stop k (suc n) t r))

  runs-left : (k n : ℕ) (t : Turn) → left s (runs s vol a k n t) ≤ left s t
  unfolding runs
  runs-left k zero t = omega arith
  runs-left k (suc n) t =
      by (ready s k t)
      (λ r. let d = step_left s vol a k t r in let e = runs-left k n (step s vol a t) in rw (runs-go s vol a k n t r) (omega arith))
      (λ r. rw (runs-stop s vol a k (suc n) t r) (omega arith))

  -- the records with m bytes come are those with k, and then those of the run that goes on
  pub trail-on : (k m n : ℕ) (t : Turn) → k ≤ m → left s t ≤ n → (j : ℕ) → n ≤ j → trail s vol a m j t ≡ trail s vol a k n t ++ trail s vol a m j
      (runs s vol a k n t)
  trail-on k m zero t le h j g =
      let q = none_left s k t (omega arith) in
      sym (ap₂ ◌++◌ (trail-stop k 0 t q) (ap (λ (x : Turn). trail s vol a m j x) (runs-stop s vol a k 0 t q)))
  trail-on k m (suc n) t le h zero g = absurd (omega arith)
  trail-on k m (suc n) t le h (suc j) g =
      by (ready s k t)
      (λ r. let d = step_left s vol a k t r in let e = runs-left k n (step s vol a t) in
      trail-go m j t (ready-more s k m t le r)
      ∙ ap (λ (x : List (List ℕ)). recorded s vol a t ∷ x) (trail-on k m n (step s vol a t) le (omega arith) j (omega arith)
      ∙ ap (λ (x : List (List ℕ)). trail s vol a k n (step s vol a t) ++ x) (sym (trail-enough m j (runs s vol a k n (step s vol a t)) (omega arith))))
      ∙ sym (ap₂ ◌++◌ (trail-go k n t r) (ap (λ (x : Turn). trail s vol a m (suc j) x) (runs-go s vol a k n t r))))
      (λ r. sym (ap₂ ◌++◌ (trail-stop k (suc n) t r) (ap (λ (x : Turn). trail s vol a m (suc j) x) (runs-stop s vol a k (suc n) t r))))

  -- the first m records of the whole run
  pub firsts : (k m : ℕ) (t : Turn) → k ≤ m
      → take (length (trail s vol a k s.terms.head.count t)) (trail s vol a m s.terms.head.count t) ≡ trail s vol a k s.terms.head.count t
  firsts k m t le = ap (λ (x : List (List ℕ)). take (length (trail s vol a k s.terms.head.count t)) x)
      (trail-on k m s.terms.head.count t le (left-most s t) s.terms.head.count (omega arith)) ∙ take-append_seam _ _

some-none : (d : ℕ) (os : List Operand) → some (λ o. ltb d (o.offset + o.len)) os ≡ false → largest os ≤ d
unfolding some largest
some-none d [] h = omega arith
some-none d (o ∷ os) h =
    by (ltb d (o.offset + o.len))
    (λ e. absurd (let q : true ≡ false = sym (picks (ltb d (o.offset + o.len)) true _ e) ∙ h in let r : ◌≡◌ {A = ℕ} 0 1 = cc in omega arith))
    (λ e. let le = ltb-false d (o.offset + o.len) e in
    let more = some-none d os (sym (skips (ltb d (o.offset + o.len)) true _ e) ∙ h) in
    by (eqb o.len 0)
    (λ x. omega (arith, picks (eqb o.len 0) 0 (o.offset + o.len) x))
    (λ x. omega (arith, skips (eqb o.len 0) 0 (o.offset + o.len) x)))

past-none : (d : ℕ) (i : Instruction) → past_end d i ≡ false → largest (operands_in i) ≤ d
unfolding past_end
past-none d i f = some-none d (operands_in i) f

-- "Need is 0 if 21 or 22 applies": no need passes the declared length
pub need-within : (d : ℕ) (i : Instruction) → need d i ≤ d
unfolding need
need-within d i =
    by (ill_formed i)
    (λ e. rw (picks (ill_formed i) 0 (pick (past_end d i) 0 (largest (operands_in i))) e) (omega arith))
    (λ e. rw (skips (ill_formed i) 0 (pick (past_end d i) 0 (largest (operands_in i))) e)
    (by (past_end d i)
    (λ f. rw (picks (past_end d i) 0 (largest (operands_in i)) f) (omega arith))
    (λ f. rw (skips (past_end d i) 0 (largest (operands_in i)) f) (past-none d i f))))

stepped-next : (s : Setting) (vol : Volume) (i : Instruction) (l : List (List ℕ)) (t : Turn) → ((stepped s vol i l t).progress.ran ≡ t.progress.ran + 1) ⊎
    ((stepped s vol i l t).progress.failed ≡ true)
unfolding succeeding failing ran_progress failed_progress
stepped-next s vol i l t =
    stepped-either s vol i l t (λ x. (x.progress.ran ≡ t.progress.ran + 1) ⊎ (x.progress.failed ≡ true)) (λ _. inl refl) (λ _. inr refl)

step-next : (s : Setting) (vol : Volume) (a : List ℕ) (t : Turn)
    → ((step s vol a t).progress.ran ≡ t.progress.ran + 1) ⊎ ((step s vol a t).progress.failed ≡ true)
unfolding step turned
step-next s vol a t = stepped-next s vol (current s t) (inputs_of (current s t) a) t

pub failed-stops : (s : Setting) (k : ℕ) (t : Turn) → t.progress.failed ≡ true → ready s k t ≡ false
unfolding ready going
failed-stops s k t e = both-not-left _ _ (both-not-left _ _ (ap not e))

ready-if : (s : Setting) (k : ℕ) (t : Turn) → going s.terms t.progress ≡ true → need s.terms.head.length (current s t) ≤ k → ready s k t ≡ true
unfolding ready
ready-if s k t g h = both-join _ _ g (le-leb _ _ h)

going-stops : (s : Setting) (k : ℕ) (t : Turn) → going s.terms t.progress ≡ false → ready s k t ≡ false
unfolding ready
going-stops s k t e = both-not-left (going s.terms t.progress) _ e

need-stops : (s : Setting) (k : ℕ) (t : Turn) → leb (need s.terms.head.length (current s t)) k ≡ false → ready s k t ≡ false
unfolding ready
need-stops s k t e = both-not-right (going s.terms t.progress) _ e

module _ (s : Setting) (vol : Volume) (a : List ℕ) where
  -- m: as many records as instructions in a row whose need has come, but no more than the whole run writes
  pub counted : (k n : ℕ) (t : Turn) → length (trail s vol a k n t) ≡ min (ripe s k t.progress.ran n) (length (trail s vol a s.terms.head.length n t))
  unfolding ripe current step
  counted k zero t = omega (arith, ap length (trail-zero s vol a k t))
  counted k (suc n) t =
      let d : ℕ = s.terms.head.length in
      by (going s.terms t.progress)
      (λ g. let rd : ready s d t ≡ true = ready-if s d t g (need-within d (current s t)) in
      by (leb (need d (current s t)) k)
      (λ e. let rk : ready s k t ≡ true = ready-if s k t g (leb-true _ _ e) in
      let ih : length (trail s vol a k n (step s vol a t)) ≡ min (ripe s k (t.progress.ran + 1) n) (length (trail s vol a d n (step s vol a t))) =
      ⊎_elim (λ r. counted k n (step s vol a t) ∙ ap (λ (x : ℕ). min (ripe s k x n) (length (trail s vol a d n (step s vol a t)))) r)
      (λ f. ap length (trail-stop s vol a k n (step s vol a t) (failed-stops s k (step s vol a t) f))
      ∙ omega (arith, ap length (trail-stop s vol a d n (step s vol a t) (failed-stops s d (step s vol a t) f))))
      (step-next s vol a t) in
      omega (
        arith,
        ih,
        ap length (trail-go s vol a k n t rk),
        ap length (trail-go s vol a d n t rd),
        picks (leb (need d (current s t)) k)
            (suc (ripe s k (t.progress.ran + 1) n)) 0 e,
      ))
      (λ e. let rk : ready s k t ≡ false = need-stops s k t e in
      omega (arith, ap length (trail-stop s vol a k (suc n) t rk), skips (leb (need d (current s t)) k) (suc (ripe s k (t.progress.ran + 1) n)) 0 e)))
      (λ g. omega (arith, ap length (trail-stop s vol a k (suc n) t (going-stops s k t g)), ap length (trail-stop s vol a d (suc n) t (going-stops s d t g))))

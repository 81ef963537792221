-- A step reads the input only below the instruction's need; running with k bytes come and then with m ≥ k is running with m. Assumes nothing.
use Rattle.lists.proofs.Kit.{◌≡◌, refl, sym, ap, ◌∙◌, subst, true, false, not, List, ℕ, zero, suc, ◌+◌, ◌-◌, ◌≤◌, ◌<◌, le_trans, arith}
use Rattle.lists.proofs.Kit.{take, not-true, leb-true, ltb-true, le-leb}
use Rattle.lists.specs.Pick.{pick}
use Rattle.lists.proofs.Laws.Pick.{by, picks, skips, both_left, both_right, both-join}
use Rattle.sia.specs.Encode.{operands_in}
use Rattle.machine_rules.specs.View.{Turn, Volume}
use Rattle.machine_rules.specs.declared.Setting.{Setting}
use Rattle.machine_rules.specs.Inputs.{ill_formed, past_end, largest, need, inputs_of}
use Rattle.machine_rules.specs.Plan.{refused, planned, judged}
use Rattle.machine_rules.specs.Run.{failed_progress, failing, ran_progress, succeeding, stepped, current, step, going, ready, runs, run, turned}
use Rattle.machine_rules.proofs.Laws.Passed.{stepped-failed, stepped-either}
use Rattle.sia.specs.declared.Instruction.{Instruction}
use Rattle.host.specs.declared.Progress.{Progress}
use Rattle.machine_rules.specs.declared.Spot.{Spot}
use Rattle.machine_rules.specs.Roots.{root_at}
use Rattle.machine_rules.specs.Plan.{Plan}
use Rattle.machine_rules.proofs.Laws.Needs.{inputs-below}

-- ---- one instruction reads the input only below its need

pub judged-ill : (s : Setting) (f : Spot → List ℕ) (p : Progress) (i : Instruction) (l : List (List ℕ)) → ill_formed i ≡ true → judged s f p i l ≡ 21
unfolding judged planned refused
judged-ill s f p i l e = ap (λ (r : Plan). r.number) (picks (ill_formed i) (refused 21) _ e)

pub judged-past : (s : Setting) (f : Spot → List ℕ) (p : Progress) (i : Instruction) (l : List (List ℕ)) → ill_formed i ≡ false
    → past_end s.terms.head.length i ≡ true → judged s f p i l ≡ 22
unfolding judged planned refused
judged-past s r p i l e f =
    ap (λ (x : Plan). x.number) (skips (ill_formed i) (refused 21) _ e ∙ picks (past_end s.terms.head.length i) (refused 22) _ f)

-- a failure does not look at the inputs
pub stepped-fails : (s : Setting) (vol : Volume) (i : Instruction) (l : List (List ℕ)) (t : Turn) (n : ℕ) → judged s (root_at s vol t) t.progress i l
    ≡ suc n → stepped s vol i l t ≡ failing s vol (suc n) t
unfolding stepped
stepped-fails s vol i l t n e = stepped-failed s vol i l t (λ q. absurd (omega (arith, e, q))) ∙ ap (λ (m : ℕ). failing s vol m t) e

pub need-sound : (d : ℕ) (i : Instruction) → ill_formed i ≡ false → past_end d i ≡ false → need d i ≡ largest (operands_in i)
unfolding need
need-sound d i e f = skips (ill_formed i) 0 _ e ∙ skips (past_end d i) 0 _ f

stepped-below : (s : Setting) (vol : Volume) (i : Instruction) (t : Turn) (a b : List ℕ) (k : ℕ) → need s.terms.head.length i ≤ k → take k a ≡ take k b
    → stepped s vol i (inputs_of i a) t ≡ stepped s vol i (inputs_of i b) t
unfolding inputs_of
stepped-below s vol i t a b k h e =
    by (ill_formed i)
    (λ x. stepped-fails s vol i _ t 20 (judged-ill s (root_at s vol t) t.progress i _ x)
    ∙ sym (stepped-fails s vol i _ t 20 (judged-ill s (root_at s vol t) t.progress i _ x)))
    (λ x. by (past_end s.terms.head.length i)
    (λ y. stepped-fails s vol i _ t 21 (judged-past s (root_at s vol t) t.progress i _ x y)
    ∙ sym (stepped-fails s vol i _ t 21 (judged-past s (root_at s vol t) t.progress i _ x y)))
    (λ y. ap (λ (l : List (List ℕ)). stepped s vol i l t)
    (inputs-below (operands_in i) a b k (subst (λ (n : ℕ). n ≤ k) (need-sound s.terms.head.length i x y) h) e)))

pub ready-need : (s : Setting) (k : ℕ) (t : Turn) → ready s k t ≡ true → need s.terms.head.length (current s t) ≤ k
unfolding ready
ready-need s k t h = leb-true _ _ (both_right _ _ h)

pub step-below : (s : Setting) (vol : Volume) (t : Turn) (a b : List ℕ) (k : ℕ) → ready s k t ≡ true → take k a ≡ take k b → step s vol a t ≡ step s vol b t
unfolding step
step-below s vol t a b k h e = ap (turned t) (stepped-below s vol (current s t) t a b k (ready-need s k t h) e)

-- ---- a run

pub runs-zero : (s : Setting) (vol : Volume) (a : List ℕ) (k : ℕ) (t : Turn) → runs s vol a k 0 t ≡ t
unfolding runs
runs-zero s vol a k t = refl

pub runs-go : (s : Setting) (vol : Volume) (a : List ℕ) (k n : ℕ) (t : Turn) → ready s k t ≡ true → runs s vol a k (suc n) t ≡ runs s vol a k n (step s vol a t)
unfolding runs
runs-go s vol a k n t h = picks (ready s k t) _ t h

pub runs-stop : (s : Setting) (vol : Volume) (a : List ℕ) (k n : ℕ) (t : Turn) → ready s k t ≡ false → runs s vol a k n t ≡ t
unfolding runs
runs-stop s vol a k zero t h = refl
runs-stop s vol a k (suc n) t h = skips (ready s k t) _ t h

-- runs on two areas that are the same as far as has come
pub runs-below : (s : Setting) (vol : Volume) (a b : List ℕ) (k n : ℕ) (t : Turn) → take k a ≡ take k b → runs s vol a k n t ≡ runs s vol b k n t
unfolding runs
runs-below s vol a b k zero t e = refl
runs-below s vol a b k (suc n) t e =
    by (ready s k t)
    (λ h. runs-go s vol a k n t h ∙ ap (λ (x : Turn). runs s vol a k n x) (step-below s vol t a b k h e) ∙ runs-below s vol a b k n (step s vol b t) e
    ∙ sym (runs-go s vol b k n t h))
    (λ h. runs-stop s vol a k (suc n) t h ∙ sym (runs-stop s vol b k (suc n) t h))

-- ---- a run ends: at most as many turns as there are instructions left

unfoldable pub left : Setting → Turn → ℕ
left s t = pick t.progress.failed 0 (s.terms.head.count - t.progress.ran)

pub ready-going : (s : Setting) (k : ℕ) (t : Turn) → ready s k t ≡ true → going s.terms t.progress ≡ true
unfolding ready
ready-going s k t h = both_left _ _ h

pub left-going : (s : Setting) (t : Turn) → going s.terms t.progress ≡ true → (left s t ≡ s.terms.head.count - t.progress.ran)
    × (t.progress.ran < s.terms.head.count)
unfolding going left
left-going s t h = (skips t.progress.failed 0 _ (not-true _ (both_left _ _ h)), ltb-true _ _ (both_right (not t.progress.failed) _ h))

pub not-failed : (s : Setting) (t : Turn) → going s.terms t.progress ≡ true → t.progress.failed ≡ false
unfolding going
not-failed s t h = not-true _ (both_left _ _ h)

-- what a step does to them
stepped-left : (s : Setting) (vol : Volume) (i : Instruction) (l : List (List ℕ)) (t : Turn) → going s.terms t.progress ≡ true
    → left s (turned t (stepped s vol i l t)) < left s t
unfolding left turned succeeding failing ran_progress failed_progress
stepped-left s vol i l t g =
    let q = left-going s t g in
    let count = s.terms.head.count in
    stepped-either s vol i l t (λ x. left s (turned t x) < left s t)
    (λ _. omega (arith, q.0, q.1, skips t.progress.failed 0 (count - (t.progress.ran + 1)) (not-failed s t g)))
    (λ _. omega (arith, q.0, q.1, picks true 0 (count - t.progress.ran) refl))

pub step_left : (s : Setting) (vol : Volume) (a : List ℕ) (k : ℕ) (t : Turn) → ready s k t ≡ true → left s (step s vol a t) < left s t
unfolding step
step_left s vol a k t h = stepped-left s vol (current s t) (inputs_of (current s t) a) t (ready-going s k t h)

pub none_left : (s : Setting) (k : ℕ) (t : Turn) → left s t ≡ 0 → ready s k t ≡ false
none_left s k t e = by (ready s k t) (λ h. let q = left-going s t (ready-going s k t h) in absurd (omega arith)) (λ h. h)

-- one more turn allowed changes nothing
pub runs-enough : (s : Setting) (vol : Volume) (a : List ℕ) (k n : ℕ) (t : Turn) → left s t ≤ n → runs s vol a k (suc n) t ≡ runs s vol a k n t
runs-enough s vol a k zero t h = runs-stop s vol a k 1 t (none_left s k t (omega arith)) ∙ sym (runs-stop s vol a k 0 t (none_left s k t (omega arith)))
runs-enough s vol a k (suc n) t h =
    by (ready s k t)
    (λ r. let d = step_left s vol a k t r in
    runs-go s vol a k (suc n) t r ∙ runs-enough s vol a k n (step s vol a t) (omega arith) ∙ sym (runs-go s vol a k n t r))
    (λ r. runs-stop s vol a k (suc (suc n)) t r ∙ sym (runs-stop s vol a k (suc n) t r))

pub ready-more : (s : Setting) (k m : ℕ) (t : Turn) → k ≤ m → ready s k t ≡ true → ready s m t ≡ true
unfolding ready
ready-more s k m t h r = both-join _ _ (both_left _ _ r) (le-leb _ _ (le_trans (leb-true _ _ (both_right _ _ r)) h))

-- running with k bytes come and then with m is running with m
pub runs_on : (s : Setting) (vol : Volume) (a : List ℕ) (k m n : ℕ) (t : Turn) → k ≤ m → left s t ≤ n → (j : ℕ) → n ≤ j → runs s vol a m j (runs s vol a k n t)
    ≡ runs s vol a m j t
runs_on s vol a k m zero t le h j g = ap (λ (x : Turn). runs s vol a m j x) (runs-stop s vol a k 0 t (none_left s k t (omega arith)))
runs_on s vol a k m (suc n) t le h zero g = absurd (omega arith)
runs_on s vol a k m (suc n) t le h (suc j) g =
    by (ready s k t)
    (λ r. let d = step_left s vol a k t r in
    ap (λ (x : Turn). runs s vol a m (suc j) x) (runs-go s vol a k n t r)
    ∙ runs_on s vol a k m n (step s vol a t) le (omega arith) (suc j) (omega arith)
    ∙ runs-enough s vol a m j (step s vol a t) (omega arith)
    ∙ sym (runs-go s vol a m j t (ready-more s k m t le r)))
    (λ r. ap (λ (x : Turn). runs s vol a m (suc j) x) (runs-stop s vol a k (suc n) t r))

-- two runs that agree as far as has come
pub run-below : (s : Setting) (vol : Volume) (a b : List ℕ) (k : ℕ) (t : Turn) → take k a ≡ take k b → run s vol a k t ≡ run s vol b k t
unfolding run
run-below s vol a b k t e = runs-below s vol a b k s.terms.head.count t e

pub left-most : (s : Setting) (t : Turn) → left s t ≤ s.terms.head.count
unfolding left
left-most s t =
    by t.progress.failed (λ e. omega (arith, picks t.progress.failed 0 (s.terms.head.count - t.progress.ran) e))
    (λ e. omega (arith, skips t.progress.failed 0 (s.terms.head.count - t.progress.ran) e))

pub run_on : (s : Setting) (vol : Volume) (a : List ℕ) (k m : ℕ) (t : Turn) → k ≤ m → run s vol a m (run s vol a k t) ≡ run s vol a m t
unfolding run
run_on s vol a k m t le = runs_on s vol a k m s.terms.head.count t le (left-most s t) s.terms.head.count (omega arith)

-- The class of a number, by where it lies among document 01's numbers. Assumes nothing.
use Rattle.lists.proofs.Kit.{◌≡◌, refl, true, false, ℕ, ◌≤◌, ◌<◌, arith, eqb, eq-eqb, ne_eqb, le-leb, lt-leb}
use Rattle.lists.specs.Pick.{pick}
use Rattle.lists.proofs.Laws.Pick.{yes, no, both-join, both-not-left, both-not-right}
use Rattle.machine_rules.specs.Class.{between, class_of}
use Rattle.machine_rules.specs.declared.class.Class.{Class}
use Rattle.machine_rules.specs.declared.class.Class.TheVariants.{Done, Interrupted, Invalid, Host, Unknown}

pub below : (a b n : ℕ) → n < a → between a b n ≡ false
below a b n h = both-not-left _ _ (lt-leb a n h)

pub above : (a b n : ℕ) → b < n → between a b n ≡ false
above a b n h = both-not-right _ _ (lt-leb n b h)

among : (a b n : ℕ) → a ≤ n → n ≤ b → between a b n ≡ true
among a b n h k = both-join _ _ (le-leb a n h) (le-leb n b k)

-- from 21 on the first two tests do not hold
pub failed : (n : ℕ) (rest : Class) {r : Class} → 21 ≤ n → r ≡ rest → r ≡ pick (eqb n 0) Done (pick (eqb n 20) Interrupted rest)
failed n rest h e = no _ _ _ (ne_eqb n 0 (λ (z : n ≡ 0). omega arith)) (no _ _ _ (ne_eqb n 20 (λ (z : n ≡ 20). omega arith)) e)

pub is-invalid : (n : ℕ) → 21 ≤ n → n ≤ 28 → Invalid ≡ class_of n
unfolding class_of
is-invalid n lo hi = failed n _ lo (yes _ _ _ (among 21 28 n lo hi) refl)

pub is-host : (n : ℕ) → 40 ≤ n → n ≤ 42 → Host ≡ class_of n
unfolding class_of
is-host n lo hi = failed n _ (omega arith) (no _ _ _ (above 21 28 n (omega arith)) (yes _ _ _ (among 40 42 n lo hi) refl))

-- ---- the others

pub is-done : (n : ℕ) → n ≡ 0 → Done ≡ class_of n
unfolding class_of
is-done n e = yes _ _ _ (eq-eqb n 0 e) refl

pub is-interrupted : (n : ℕ) → n ≡ 20 → Interrupted ≡ class_of n
unfolding class_of
is-interrupted n e = no _ _ _ (ne_eqb n 0 (λ (z : n ≡ 0). omega arith)) (yes _ _ _ (eq-eqb n 20 e) refl)

pub is-low : (n : ℕ) → 0 < n → n < 20 → Unknown ≡ class_of n
unfolding class_of
is-low n lo hi =
    no _ _ _ (ne_eqb n 0 (λ (z : n ≡ 0). omega arith))
    (no _ _ _ (ne_eqb n 20 (λ (z : n ≡ 20). omega arith))
    (no _ _ _ (below 21 28 n (omega arith)) (no _ _ _ (below 40 42 n (omega arith)) refl)))

pub is-between : (n : ℕ) → 28 < n → n < 40 → Unknown ≡ class_of n
unfolding class_of
is-between n lo hi =
    failed n _ (omega arith) (no _ _ _ (above 21 28 n (omega arith)) (no _ _ _ (below 40 42 n (omega arith)) refl))

pub is-high : (n : ℕ) → 42 < n → Unknown ≡ class_of n
unfolding class_of
is-high n lo =
    failed n _ (omega arith) (no _ _ _ (above 21 28 n (omega arith)) (no _ _ _ (above 40 42 n (omega arith)) refl))

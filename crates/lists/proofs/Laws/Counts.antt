-- How many numbers pass a test, and the lowest where there is one. Assumes nothing.
use mathlib.Core.Path.{◌≡◌, refl, ap}
use mathlib.Core.Bool.{Bool, true, not}
use mathlib.Core.List.{List, [], ◌∷◌}
use Prim.Native.Nat.{ℕ, zero, suc, ◌+◌, ◌≤◌, ◌<◌}
use native.Mathlib.Omega.{arith}
use lib.ListN.{length}
use lib.Dec.{eqb}
use borrow.Author.Tests.{not-true, eqb-true, eqb-false, ne_eqb}
use Rattle.lists.specs.Pick.{pick}
use Rattle.lists.specs.Tests.{some, count, unused}
use Rattle.lists.specs.Lowest.{lowest}
use Rattle.lists.proofs.Laws.Pick.{by, picks, skips, either-join}

count-zero : (p : ℕ → Bool) (i : ℕ) → count p i 0 ≡ 0
unfolding count
count-zero p i = refl

-- ---- the lowest of a kind

module _ (p : ℕ → Bool) where
  count-suc : (i n : ℕ) → count p i (suc n) ≡ pick (p i) 1 0 + count p (suc i) n
  unfolding count
  count-suc i n = refl

  pub lowest-is : (i n : ℕ) → 0 < count p i n → (p (lowest p i n) ≡ true) × (lowest p i n < i + n)
  unfolding lowest
  lowest-is i zero h = absurd (let e : count p i 0 ≡ 0 = count-zero p i in omega arith)
  lowest-is i (suc n) h =
      by (p i)
      (λ e. rw (picks (p i) i (lowest p (suc i) n) e) (e, omega arith))
      (λ e. let c : 0 < count p (suc i) n = omega (arith, count-suc i n, skips {A = ℕ} (p i) 1 0 e) in
      let r = lowest-is (suc i) n c in
      rw (skips (p i) i (lowest p (suc i) n) e) (r.0, omega (arith, r.1)))

-- one kind is the other but for v
module _ (p q : ℕ → Bool) (v : ℕ) (f : (j : ℕ) → (j ≡ v → ⊥) → p j ≡ true → q j ≡ true) where
  bit_le : (j : ℕ) → (j ≡ v → ⊥) → pick (p j) 1 0 ≤ pick (q j) 1 0
  bit_le j ne =
      by (p j)
      (λ e. omega (arith, picks {A = ℕ} (p j) 1 0 e, picks {A = ℕ} (q j) 1 0 (f j ne e)))
      (λ e. omega (arith, skips {A = ℕ} (p j) 1 0 e))

  bit-one : (j : ℕ) → pick (p j) 1 0 ≤ 1
  bit-one j = by (p j) (λ e. omega (arith, picks {A = ℕ} (p j) 1 0 e)) (λ e. omega (arith, skips {A = ℕ} (p j) 1 0 e))

  count-above : (i n : ℕ) → v < i → count p i n ≤ count q i n
  count-above i zero h = omega (arith, count-zero p i)
  count-above i (suc n) h = omega (arith, count-suc p i n, count-suc q i n, bit_le i (λ e. omega arith), count-above (suc i) n (omega arith))

  pub count-but-one : (i n : ℕ) → count p i n ≤ count q i n + 1
  count-but-one i zero = omega (arith, count-zero p i)
  count-but-one i (suc n) =
      by (eqb i v)
      (λ e. let z = eqb-true i v e in omega (arith, count-suc p i n, count-suc q i n, bit-one i, count-above (suc i) n (omega arith)))
      (λ e. omega (arith, count-suc p i n, count-suc q i n, bit_le i (eqb-false i v e), count-but-one (suc i) n))

-- ---- numbers that are not in use

count-all : (i n : ℕ) → count (unused []) i n ≡ n
unfolding count some pick
count-all i zero = refl
count-all i (suc n) = omega (arith, count-all (suc i) n)

pub more-used : (used : List ℕ) (x j : ℕ) → (j ≡ x → ⊥) → unused used j ≡ true → unused (x ∷ used) j ≡ true
unfolding some
more-used used x j ne h = ap not (either-join _ _ (ne_eqb j x ne) (not-true _ h))

-- each one in use takes one
pub free-enough : (n : ℕ) (used : List ℕ) → n ≤ count (unused used) 0 n + length used
free-enough n [] = omega (arith, count-all 0 n)
free-enough n (x ∷ used) = omega (arith, free-enough n used, count-but-one (unused used) (unused (x ∷ used)) x (more-used used x) 0 n)

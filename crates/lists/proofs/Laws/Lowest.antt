-- The lowest that passes a test: one turn of a loop that looks for it, and what it is. Assumes nothing.
use mathlib.Core.Path.{◌≡◌, refl, sym, ap, ◌∙◌}
use mathlib.Core.Bool.{Bool, true, false}
use Prim.Native.Nat.{ℕ, zero, suc, ◌+◌, ◌-◌, ◌≤◌, ◌<◌}
use native.Mathlib.Numerals.{add-one}
use native.Mathlib.Omega.{arith}
use lib.Dec.{eqb}
use borrow.Author.Tests.{eqb-true, eqb-false}
use Rattle.lists.specs.Pick.{pick}
use Rattle.lists.specs.Lowest.{lowest}
use Rattle.lists.proofs.Laws.Pick.{yes, no, by, picks, skips}

module _ (p : ℕ → Bool) where
  -- ---- the loop: of n in all, those below i were passed

  pub lowest-here : (i n : ℕ) → i < n → p i ≡ true → i ≡ lowest p i (n - i)
  unfolding lowest
  lowest-here i n h e = let k : n - i ≡ suc (n - (i + 1)) = omega arith in rw k (yes _ _ _ e refl)

  pub lowest-further : (i n : ℕ) → i < n → p i ≡ false → lowest p (i + 1) (n - (i + 1)) ≡ lowest p i (n - i)
  unfolding lowest
  lowest-further i n h e = let k : n - i ≡ suc (n - (i + 1)) = omega arith in rw (k, add-one i) (no _ _ _ e refl)

  pub lowest-none : (i n : ℕ) → n ≤ i → i ≡ lowest p i (n - i)
  unfolding lowest
  lowest-none i n h = let k : n - i ≡ 0 = omega arith in rw k

  -- ---- what it is

  -- one of them passes the test
  pub lowest-passes : (i n : ℕ) → lowest p i n < i + n → p (lowest p i n) ≡ true
  unfolding lowest
  lowest-passes i zero h = absurd (omega arith)
  lowest-passes i (suc n) h =
      by (p i) (λ e. rw (picks (p i) i (lowest p (suc i) n) e) e)
      (λ e. let s = skips (p i) i (lowest p (suc i) n) e in rw s (lowest-passes (suc i) n (omega (arith, s))))

  -- and none below it does
  pub lowest-first : (i n j : ℕ) → i ≤ j → j < lowest p i n → p j ≡ false
  unfolding lowest
  lowest-first i zero j g h = absurd (omega arith)
  lowest-first i (suc n) j g h =
      by (eqb i j) (λ q. here (eqb-true i j q) (by (p i) (λ e. absurd (omega (arith, eqb-true i j q, picks (p i) i (lowest p (suc i) n) e))) (λ e. e)))
      (λ q. let d = eqb-false i j q in
      by (p i) (λ e. absurd (omega (arith, picks (p i) i (lowest p (suc i) n) e)))
      (λ e. lowest-first (suc i) n j (omega arith) (omega (arith, skips (p i) i (lowest p (suc i) n) e)))) where
        here : i ≡ j → p i ≡ false → p j ≡ false
        here q e = sym (ap p q) ∙ e

-- two tests that say the same of each
pub lowest-alike : (p q : ℕ → Bool) (i n : ℕ) → ((j : ℕ) → i ≤ j → j < i + n → p j ≡ q j) → lowest p i n ≡ lowest q i n
unfolding lowest
lowest-alike p q i zero h = refl
lowest-alike p q i (suc n) h =
    ap (λ (b : Bool). pick b i (lowest p (suc i) n)) (h i (omega arith) (omega arith))
    ∙ ap (pick (q i) i) (lowest-alike p q (suc i) n (λ j lo hi. h j (omega arith) (omega arith)))

-- Numbers below n, no two alike, are at most n. Assumes nothing.
use mathlib.Core.Path.{◌≡◌, refl, ap, ◌∙◌, subst}
use mathlib.Core.Bool.{Bool, true, false, not}
use mathlib.Core.List.{List, [], ◌∷◌}
use Prim.Native.Nat.{ℕ, zero, suc, ◌+◌, ◌≤◌}
use native.Mathlib.Omega.{arith}
use lib.ListN.{length}
use lib.Dec.{ltb, eqb}
use borrow.Author.Tests.{ltb-true, lt-ltb, eqb-true, eqb-false}
use Rattle.lists.specs.Tests.{every, some, those, apart}
use Rattle.lists.proofs.Laws.Pick.{by, picks, skips, both_left, both_right, both-join, either_left, either-right, either-join}
use Rattle.lists.proofs.Laws.Some.{eqb_swap}
use Rattle.lists.proofs.Laws.Apart.{tail_apart}

module _ (q : ℕ → Bool) where
  -- what `those` keeps of one more
  keeps : (x y : ℕ) (ys : List ℕ) → (q y ≡ true → eqb x y ≡ false) → some (eqb x) (those q ys) ≡ false → some (eqb x) (those q (y ∷ ys)) ≡ false
  unfolding those some
  keeps x y ys f h =
      by (q y)
      (λ e. ap (λ (l : List ℕ). some (eqb x) l) (picks (q y) (y ∷ those q ys) (those q ys) e) ∙ either-join _ _ (f e) h)
      (λ e. ap (λ (l : List ℕ). some (eqb x) l) (skips (q y) (y ∷ those q ys) (those q ys) e) ∙ h)

  pub some-those : (x : ℕ) (l : List ℕ) → some (eqb x) l ≡ false → some (eqb x) (those q l) ≡ false
  unfolding some those
  some-those x [] h = refl
  some-those x (y ∷ ys) h = keeps x y ys (λ e. either_left _ _ h) (some-those x ys (either-right _ _ h))

  pub apart-join : (x : ℕ) (xs : List ℕ) → (q x ≡ true → some (eqb x) (those q xs) ≡ false) → apart eqb (those q xs) ≡ true
      → apart eqb (those q (x ∷ xs)) ≡ true
  unfolding those apart
  apart-join x xs f h =
      by (q x)
      (λ e. ap (λ (l : List ℕ). apart eqb l) (picks (q x) (x ∷ those q xs) (those q xs) e) ∙ both-join _ _ (ap not (f e)) h)
      (λ e. ap (λ (l : List ℕ). apart eqb l) (skips (q x) (x ∷ those q xs) (those q xs) e) ∙ h)

apart-those : (q : ℕ → Bool) (l : List ℕ) → apart eqb l ≡ true → apart eqb (those q l) ≡ true
unfolding those
apart-those q [] h = h
apart-those q (x ∷ xs) h = let t = tail_apart eqb x xs h in apart-join q x xs (λ e. some-those q x xs t.0) (apart-those q xs t.1)

other : ℕ → ℕ → Bool
other n x = not (eqb x n)

those-all : (n : ℕ) (l : List ℕ) → some (eqb n) l ≡ false → those (other n) l ≡ l
unfolding those some other
those-all n [] h = refl
those-all n (x ∷ xs) h =
    picks (not (eqb x n)) _ _ (ap not (eqb_swap n x (either_left _ _ h))) ∙ ap (λ (l : List ℕ). x ∷ l) (those-all n xs (either-right _ _ h))

those-length : (n : ℕ) (l : List ℕ) → apart eqb l ≡ true → length l ≤ length (those (other n) l) + 1
unfolding those other
those-length n [] h = omega arith
those-length n (x ∷ xs) h =
    let t = tail_apart eqb x xs h in
    by (eqb x n)
    (λ e. let q = eqb-true x n e in
    let k : those (other n) xs ≡ xs = those-all n xs (subst (λ (y : ℕ). some (eqb y) xs ≡ false) q t.0) in
    omega (arith, ap length (skips (not (eqb x n)) (x ∷ those (other n) xs) (those (other n) xs) (ap not e)), ap length k))
    (λ e. omega (arith, ap length (picks (not (eqb x n)) (x ∷ those (other n) xs) (those (other n) xs) (ap not e)), those-length n xs t.1))

every-those : (n : ℕ) (l : List ℕ) → every (λ x. ltb x (suc n)) l ≡ true → every (λ x. ltb x n) (those (other n) l) ≡ true
unfolding those every other
every-those n [] h = refl
every-those n (x ∷ xs) h =
    by (eqb x n)
    (λ e. ap (λ (l : List ℕ). every (λ y. ltb y n) l) (skips (not (eqb x n)) (x ∷ those (other n) xs) (those (other n) xs) (ap not e))
    ∙ every-those n xs (both_right _ _ h))
    (λ e. ap (λ (l : List ℕ). every (λ y. ltb y n) l) (picks (not (eqb x n)) (x ∷ those (other n) xs) (those (other n) xs) (ap not e))
    ∙ both-join _ _ (lt-ltb x n (omega (arith, ltb-true x (suc n) (both_left _ _ h), eqb-false x n e))) (every-those n xs (both_right _ _ h)))

pub pigeons : (n : ℕ) (l : List ℕ) → apart eqb l ≡ true → every (λ x. ltb x n) l ≡ true → length l ≤ n
unfolding every
pigeons zero [] a h = omega arith
pigeons zero (x ∷ xs) a h = absurd (omega (arith, ltb-true x 0 (both_left _ _ h)))
pigeons (suc n) l a h = omega (arith, those-length n l a, pigeons n (those (other n) l) (apart-those (other n) l a) (every-those n l h))

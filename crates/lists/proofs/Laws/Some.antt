-- Whether one entry of a list passes a test, and whether a number is among others. Assumes nothing.
use mathlib.Core.Path.{◌≡◌, refl, sym, ap, ◌∙◌}
use mathlib.Core.Bool.{Bool, true, false}
use mathlib.Core.List.{List, [], ◌∷◌, ◌++◌}
use Prim.Native.Nat.{ℕ, zero, suc, ◌<◌}
use native.Mathlib.Omega.{arith}
use lib.ListN.{length, take, get_or, set, length-take}
use lib.Seq.{get_or-take}
use lib.Dec.{eqb}
use borrow.Author.Tests.{eqb-true, eqb-false, eq-eqb, ne_eqb}
use Rattle.lists.specs.Pick.{either}
use Rattle.lists.specs.Tests.{some}
use Rattle.lists.proofs.Laws.Pick.{by, picks, skips, never, either-join, either_left, either-right, either_second, either-swap, or_right}

pub eqb_swap : (a b : ℕ) → eqb a b ≡ false → eqb b a ≡ false
eqb_swap a b e = ne_eqb b a (λ q. eqb-false a b e (sym q))

module _ {A : Type 0} (p : A → Bool) where
  -- ---- at an index

  pub some-get : (l : List A) (i : ℕ) (d : A) → i < length l → some p l ≡ false → p (get_or l i d) ≡ false
  unfolding some
  some-get [] i d h e = absurd (omega arith)
  some-get (x ∷ xs) zero d h e = either_left _ _ e
  some-get (x ∷ xs) (suc i) d h e = some-get xs i d (omega arith) (either-right _ _ e)

  pub some-taken : (l : List A) (n i : ℕ) (d : A) → some p (take n l) ≡ false → i < n → i < length l → p (get_or l i d) ≡ false
  some-taken l n i d e h k = sym (ap p (get_or-take n l i d h)) ∙ some-get (take n l) i d (omega (arith, length-take n l)) e

  -- ---- of two lists, and where one entry is set

  pub some-and : (l m : List A) → some p l ≡ false → some p m ≡ false → some p (l ++ m) ≡ false
  unfolding some
  some-and [] m h k = k
  some-and (y ∷ ys) m h k = either-join _ _ (either_left _ _ h) (some-and ys m (either-right _ _ h) k)

  pub some-fore : (l m : List A) → some p (l ++ m) ≡ false → some p l ≡ false
  unfolding some
  some-fore [] m h = refl
  some-fore (y ∷ ys) m h = either-join _ _ (either_left _ _ h) (some-fore ys m (either-right _ _ h))

  pub some-aft : (l m : List A) → some p (l ++ m) ≡ false → some p m ≡ false
  unfolding some
  some-aft [] m h = h
  some-aft (y ∷ ys) m h = some-aft ys m (either-right _ _ h)

  pub some-set : (l : List A) (i : ℕ) (v : A) → some p l ≡ false → p v ≡ false → some p (set l i v) ≡ false
  unfolding some
  some-set [] i v h e = refl
  some-set (y ∷ ys) zero v h e = either-join _ _ e (either-right _ _ h)
  some-set (y ∷ ys) (suc i) v h e = either-join _ _ (either_left _ _ h) (some-set ys i v (either-right _ _ h) e)

-- ---- a number among others

pub some_at : (n : ℕ) (l : List ℕ) (j : ℕ) → some (eqb n) l ≡ false → j < length l → get_or l j 0 ≡ n → ⊥
some_at n l j h lt e = eqb-false n (get_or l j 0) (some-get (eqb n) l j 0 lt h) (sym e)

pub some_first : (v x : ℕ) (xs : List ℕ) → some (eqb v) (x ∷ xs) ≡ false → eqb v x ≡ false
unfolding some
some_first v x xs e = either_left _ _ e

pub some-tail : (v x : ℕ) (xs : List ℕ) → some (eqb v) (x ∷ xs) ≡ false → some (eqb v) xs ≡ false
unfolding some
some-tail v x xs e = either-right _ _ e

pub member-here : (j : ℕ) (l : List ℕ) → some (eqb j) (j ∷ l) ≡ true
unfolding some
member-here j l = picks (eqb j j) true _ (eq-eqb j j refl)

pub member-more : (j x : ℕ) (l : List ℕ) → some (eqb j) l ≡ true → some (eqb j) (x ∷ l) ≡ true
unfolding some
member-more j x l e = or_right (eqb j x) _ e

pub member-less : (j x : ℕ) (l : List ℕ) → (j ≡ x → ⊥) → some (eqb j) (x ∷ l) ≡ true → some (eqb j) l ≡ true
unfolding some
member-less j x l ne e = either_second (eqb j x) _ e (ne_eqb j x ne)

-- wherever it stands
pub some-moved : (x : ℕ) (l m : List ℕ) (j : ℕ) → some (eqb j) (l ++ (x ∷ m)) ≡ some (eqb j) (x ∷ (l ++ m))
unfolding some
some-moved x [] m j = refl
some-moved x (y ∷ l) m j = ap (either (eqb j y)) (some-moved x l m j) ∙ either-swap (eqb j y) (eqb j x) (some (eqb j) (l ++ m))

-- ---- a list of one

pub one-not : (j x : ℕ) → some (eqb j) (x ∷ []) ≡ false → j ≡ x → ⊥
one-not j x e = eqb-false j x (some_first j x [] e)

pub one_of : (j x : ℕ) → some (eqb j) (x ∷ []) ≡ true → j ≡ x
unfolding some
one_of j x e = by (eqb j x) (λ u. eqb-true j x u) (λ u. never (sym e ∙ skips (eqb j x) true false u))

pub not-one : (j x : ℕ) → (j ≡ x → ⊥) → some (eqb j) (x ∷ []) ≡ false
not-one j x ne = by (some (eqb j) (x ∷ [])) (λ u. absurd (ne (one_of j x u))) (λ u. u)

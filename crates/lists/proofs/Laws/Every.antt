-- Whether every entry of a list passes a test. Assumes nothing.
use mathlib.Core.Path.{◌≡◌, refl, sym, ap, ◌∙◌, subst}
use mathlib.Core.Bool.{Bool, true, false}
use mathlib.Core.List.{List, [], ◌∷◌, ◌++◌}
use Prim.Native.Nat.{ℕ, zero, suc, ◌+◌, ◌≤◌, ◌<◌}
use native.Mathlib.Omega.{arith}
use lib.ListN.{length, take, drop, get_or, set, length-take}
use lib.Seq.{get_or-take, drop-nil, drop-drop}
use Rattle.lists.specs.Pick.{pick, both}
use Rattle.lists.specs.Tests.{every}
use Rattle.lists.proofs.Laws.Pick.{both-join, both_left, both_right, both-both}
use Rattle.lists.proofs.Laws.Ways.{either_way}
use Rattle.lists.proofs.Laws.Slices.{every-stops, every-further, every-done}

pub every-none : {A : Type 0} (p : A → Bool) → every p [] ≡ true
unfolding every
every-none p = refl

module _ {A : Type 0} (p : A → Bool) where
  pub every-cons : (x : A) (xs : List A) → p x ≡ true → every p xs ≡ true → every p (x ∷ xs) ≡ true
  unfolding every
  every-cons x xs h k = both-join _ _ h k

  pub every_first : (x : A) (xs : List A) → every p (x ∷ xs) ≡ true → p x ≡ true
  unfolding every
  every_first x xs h = both_left _ _ h

  pub every_rest : (x : A) (xs : List A) → every p (x ∷ xs) ≡ true → every p xs ≡ true
  unfolding every
  every_rest x xs h = both_right _ _ h

  -- ---- at an index

  -- where the default passes too
  pub every-at : (l : List A) (i : ℕ) (d : A) → every p l ≡ true → p d ≡ true → p (get_or l i d) ≡ true
  unfolding every
  every-at [] i d h e = e
  every-at (x ∷ xs) zero d h e = both_left _ _ h
  every-at (x ∷ xs) (suc i) d h e = every-at xs i d (both_right _ _ h) e

  pub every_get : (l : List A) (i : ℕ) (d : A) → i < length l → every p l ≡ true → p (get_or l i d) ≡ true
  unfolding every
  every_get [] i d h e = absurd (omega arith)
  every_get (x ∷ xs) zero d h e = both_left _ _ e
  every_get (x ∷ xs) (suc i) d h e = every_get xs i d (omega arith) (both_right _ _ e)

  pub every-taken : (l : List A) (n i : ℕ) (d : A) → every p (take n l) ≡ true → i < n → i < length l → p (get_or l i d) ≡ true
  every-taken l n i d e h k = sym (ap p (get_or-take n l i d h)) ∙ every_get (take n l) i d (omega (arith, length-take n l)) e

  pub every-all : (l : List A) (d : A) → ((j : ℕ) → j < length l → p (get_or l j d) ≡ true) → every p l ≡ true
  unfolding every
  every-all [] d f = refl
  every-all (x ∷ xs) d f = both-join _ _ (f 0 (omega arith)) (every-all xs d (λ j lt. f (suc j) (omega arith)))

  -- ---- of two lists, and of a part

  pub every_append : (l m : List A) → every p (l ++ m) ≡ both (every p l) (every p m)
  unfolding every pick
  every_append [] m = refl
  every_append (x ∷ xs) m = ap (both (p x)) (every_append xs m) ∙ both-both (p x) (every p xs) (every p m)

  pub every-and : (l m : List A) → every p l ≡ true → every p m ≡ true → every p (l ++ m) ≡ true
  every-and l m h k = every_append l m ∙ both-join _ _ h k

  pub every-fore : (l m : List A) → every p (l ++ m) ≡ true → every p l ≡ true
  every-fore l m h = both_left _ _ (sym (every_append l m) ∙ h)

  pub every-aft : (l m : List A) → every p (l ++ m) ≡ true → every p m ≡ true
  every-aft l m h = both_right _ _ (sym (every_append l m) ∙ h)

  pub every-one-more : (l : List A) (v : A) → every p l ≡ true → p v ≡ true → every p (l ++ (v ∷ [])) ≡ true
  every-one-more l v h e = every-and l (v ∷ []) h (every-cons v [] e (every-none p))

  pub every-pick : (b : Bool) (l m : List A) → every p l ≡ true → every p m ≡ true → every p (pick b l m) ≡ true
  every-pick b l m u v = either_way (λ x. every p x ≡ true) b l m (λ e. u) (λ e. v)

  pub every_drop : (n : ℕ) (l : List A) → every p l ≡ true → every p (drop n l) ≡ true
  unfolding every
  every_drop zero l h = h
  every_drop (suc n) [] h = refl
  every_drop (suc n) (x ∷ xs) h = every_drop n xs (both_right _ _ h)

  pub every-drop-more : (n : ℕ) (l : List A) → every p (drop n l) ≡ true → every p (drop (suc n) l) ≡ true
  every-drop-more n l h =
      let e : n + 1 ≡ suc n = omega arith in
      subst (λ (x : ℕ). every p (drop x l) ≡ true) e (subst (λ (x : List A). every p x ≡ true) (drop-drop 1 n l) (every_drop 1 (drop n l) h))

  -- a shorter front
  pub every_front : (s m : ℕ) (l : List A) (n : ℕ) → m ≤ n → every p (drop s (take n l)) ≡ true → every p (drop s (take m l)) ≡ true
  unfolding every
  every_front s zero l n le h = rw (drop-nil s)
  every_front s (suc m) [] n le h = rw (drop-nil s)
  every_front s (suc m) (x ∷ xs) zero le h = absurd (omega arith)
  every_front zero (suc m) (x ∷ xs) (suc n) le h = both-join _ _ (both_left _ _ h) (every_front zero m xs n (omega arith) (both_right _ _ h))
  every_front (suc s) (suc m) (x ∷ xs) (suc n) le h = every_front s m xs n (omega arith) h

  -- ---- one entry is set

  pub every_set : (l : List A) (i : ℕ) (v : A) → every p l ≡ true → p v ≡ true → every p (set l i v) ≡ true
  unfolding every
  every_set [] i v h e = refl
  every_set (x ∷ xs) zero v h e = both-join _ _ e (both_right _ _ h)
  every_set (x ∷ xs) (suc i) v h e = both-join _ _ (both_left _ _ h) (every_set xs i v (both_right _ _ h) e)

  -- the first of what is left
  pub every-set-first : (n : ℕ) (l : List A) (v : A) → every p (drop (suc n) l) ≡ true → p v ≡ true → every p (drop n (set l n v)) ≡ true
  unfolding every
  every-set-first zero [] v h e = refl
  every-set-first zero (x ∷ xs) v h e = both-join _ _ e h
  every-set-first (suc n) [] v h e = refl
  every-set-first (suc n) (x ∷ xs) v h e = every-set-first n xs v h e

  pub every-set-from : (s : ℕ) (l : List A) (i : ℕ) (v : A) → every p (drop s l) ≡ true → p v ≡ true → every p (drop s (set l i v)) ≡ true
  unfolding every
  every-set-from zero l i v h e = every_set l i v h e
  every-set-from (suc s) [] i v h e = refl
  every-set-from (suc s) (x ∷ xs) zero v h e = h
  every-set-from (suc s) (x ∷ xs) (suc i) v h e = every-set-from s xs i v h e

-- ---- by other tests

pub every_two : {A : Type 0} (p q r : A → Bool) (l : List A) → every p l ≡ true → every q l ≡ true → ((n : A) → p n ≡ true → q n ≡ true → r n ≡ true)
    → every r l ≡ true
unfolding every
every_two p q r [] u v f = refl
every_two p q r (x ∷ xs) u v f = both-join _ _ (f x (both_left _ _ u) (both_left _ _ v)) (every_two p q r xs (both_right _ _ u) (both_right _ _ v) f)

pub every-alike : {A : Type 0} (p q : A → Bool) (l : List A) → ((n : A) → p n ≡ q n) → every p l ≡ true → every q l ≡ true
every-alike p q l e h = every_two p p q l h h (λ n u v. sym (e n) ∙ u)

-- ---- the loop over the first n entries, of which there are as many

module _ {A : Type 0} (p : A → Bool) (l : List A) (n : ℕ) (i : ℕ) (d : A) where
  pub every-not : i < n → n ≤ length l → p (get_or l i d) ≡ false → every p (drop i (take n l)) ≡ false
  every-not h k e = sym (every-stops p l i n d refl h k e)

  pub every-next : i < n → n ≤ length l → p (get_or l i d) ≡ true → every p (drop i (take n l)) ≡ every p (drop (i + 1) (take n l))
  every-next h k e = every-further p l i n d refl h k e

  pub every-end : n ≤ i → n ≤ length l → every p (drop i (take n l)) ≡ true
  every-end h k = sym (every-done p l i n h)

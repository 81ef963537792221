-- One turn of a loop over an array: a slice from f to t, from its first element on. Assumes nothing.
use mathlib.Core.Path.{◌≡◌, refl, sym, ap, ◌∙◌}
use mathlib.Core.Bool.{Bool, true, false, not}
use mathlib.Core.List.{List, [], ◌∷◌}
use Prim.Native.Nat.{ℕ, ◌+◌, ◌≤◌, ◌<◌, min}
use native.Mathlib.Numerals.{add-one}
use native.Mathlib.Omega.{arith}
use lib.ListN.{length, take, drop, get_or, drop_of_length-le, length-take}
use lib.Seq.{slice, slice-cons, take_all}
use lib.Dec.{leb}
use borrow.Author.Tests.{leb-true, leb-false}
use Rattle.lists.specs.Tests.{every, some, first_of, apart}
use Rattle.lists.proofs.Laws.Pick.{yes, no, by}

module _ {A : Type 0} (l : List A) (f t : ℕ) where
  pub slice-none : t ≤ f → slice f t l ≡ []
  slice-none h = drop_of_length-le (take t l) {i = f} (omega (arith, length-take t l))

  pub slice-one : (d : A) {n : ℕ} → length l ≡ n → f < t → t ≤ n → slice f t l ≡ get_or l f d ∷ slice (f + 1) t l
  slice-one d e h g = rw (add-one f) (slice-cons f t l d h (omega arith))

pub slice_all : {A : Type 0} (l : List A) {n : ℕ} → length l ≡ n → slice 0 n l ≡ l
slice_all l {n} h = take_all n l (omega arith)

-- ---- whether one passes a test, whether every one does

module _ {A : Type 0} (p : A → Bool) (l : List A) (f t : ℕ) where
  pub some-here : (d : A) {n : ℕ} → length l ≡ n → f < t → t ≤ n → p (get_or l f d) ≡ true → true ≡ some p (slice f t l)
  unfolding some
  some-here d n h g e = rw (slice-one l f t d n h g) (yes _ _ _ e refl)

  pub some-further : (d : A) {n : ℕ} → length l ≡ n → f < t → t ≤ n → p (get_or l f d) ≡ false
      → some p (slice f t l) ≡ some p (slice (f + 1) t l)
  unfolding some
  some-further d n h g e = rw (slice-one l f t d n h g) (sym (no _ _ _ e refl))

  pub some-done : t ≤ f → false ≡ some p (slice f t l)
  unfolding some
  some-done h = rw (slice-none l f t h)

  pub every-stops : (d : A) {n : ℕ} → length l ≡ n → f < t → t ≤ n → p (get_or l f d) ≡ false → false ≡ every p (slice f t l)
  unfolding every
  every-stops d n h g e = rw (slice-one l f t d n h g) (no _ _ _ e refl)

  pub every-further : (d : A) {n : ℕ} → length l ≡ n → f < t → t ≤ n → p (get_or l f d) ≡ true
      → every p (slice f t l) ≡ every p (slice (f + 1) t l)
  unfolding every
  every-further d n h g e = rw (slice-one l f t d n h g) (sym (yes _ _ _ e refl))

  pub every-done : t ≤ f → true ≡ every p (slice f t l)
  unfolding every
  every-done h = rw (slice-none l f t h)

-- ---- the number of the first that passes a test

module _ {A : Type 0} (p : A → Bool) (l : List A) (f t : ℕ) where
  pub first-here : (d : A) {n : ℕ} → length l ≡ n → f < t → t ≤ n → p (get_or l f d) ≡ true → first_of p (slice f t l) ≡ 0
  unfolding first_of
  first-here d n h g e = rw (slice-one l f t d n h g) (sym (yes _ _ _ e refl))

  pub first-further : (d : A) {n : ℕ} → length l ≡ n → f < t → t ≤ n → p (get_or l f d) ≡ false
      → first_of p (slice f t l) ≡ 1 + first_of p (slice (f + 1) t l)
  unfolding first_of
  first-further d n h g e = rw (slice-one l f t d n h g) (sym (no _ _ _ e (omega arith)))

  pub first_done : t ≤ f → first_of p (slice f t l) ≡ 0
  unfolding first_of
  first_done h = rw (slice-none l f t h)

-- ---- whether no two are so related

module _ {A : Type 0} (e : A → A → Bool) (l : List A) (f t : ℕ) where
  pub apart-stops : (d : A) {n : ℕ} → length l ≡ n → f < t → t ≤ n → some (e (get_or l f d)) (slice (f + 1) t l) ≡ true
      → false ≡ apart e (slice f t l)
  unfolding apart
  apart-stops d n h g q = rw (slice-one l f t d n h g) (no _ _ _ (ap not q) refl)

  pub apart-further : (d : A) {n : ℕ} → length l ≡ n → f < t → t ≤ n → some (e (get_or l f d)) (slice (f + 1) t l) ≡ false
      → apart e (slice f t l) ≡ apart e (slice (f + 1) t l)
  unfolding apart
  apart-further d n h g q = rw (slice-one l f t d n h g) (sym (yes _ _ _ (ap not q) refl))

  pub apart-done : t ≤ f → true ≡ apart e (slice f t l)
  unfolding apart
  apart-done h = rw (slice-none l f t h)

-- ---- a count above the length of the array

pub take_min : (a n : ℕ) (l : List ℕ) → length l ≡ n → take (min a n) l ≡ take a l
take_min a n l h = by (leb a n)
    (λ u. let m : min a n ≡ a = omega (arith, leb-true a n u) in rw m)
    (λ u. let m : min a n ≡ n = omega (arith, leb-false a n u) in
    rw m (take_all n l (omega arith) ∙ sym (take_all a l (omega (arith, leb-false a n u)))))

pub drop_min : (a n : ℕ) (l : List ℕ) → length l ≡ n → slice (min a n) n l ≡ drop a l
drop_min a n l h = ap (drop (min a n)) (take_all n l (omega arith)) ∙ by (leb a n)
    (λ u. let m : min a n ≡ a = omega (arith, leb-true a n u) in rw m)
    (λ u. let m : min a n ≡ n = omega (arith, leb-false a n u) in
    rw m (drop_of_length-le l {i = n} (omega arith) ∙ sym (drop_of_length-le l {i = a} (omega (arith, leb-false a n u)))))

module _ (p : ℕ → Bool) (l : List ℕ) (size n end : ℕ) (long : length l ≡ n) (q : end ≡ min size n) where
  -- those behind a count
  pub every-behind : every p (slice end n l) ≡ every p (drop size l)
  every-behind = ap (λ (k : ℕ). every p (slice k n l)) q ∙ ap (every p) (drop_min size n l long)

  -- those from an entry to a count
  pub every-between : (from : ℕ) → every p (slice from end l) ≡ every p (drop from (take size l))
  every-between from = ap (λ (k : ℕ). every p (slice from k l)) q ∙ ap (λ (x : List ℕ). every p (drop from x)) (take_min size n l long)

-- What chains of iterators give, in the words of `lists`. Assumes nothing.
use Rattle.lists.proofs.Kit.{◌≡◌, refl, sym, ap, subst, ◌∙◌, true, false, not, Bool, cond, List, [], ◌∷◌, ℕ, zero, suc, ◌+◌, ◌≤◌, ◌<◌, map, length, length-map}
use Rattle.lists.proofs.Kit.{get_or, arith, ltb, eqb, ltb-false, eqb-true, eqb-false, ext_get_or}
use native.Mathlib.Numerals.{add-one}
use denote.Param.Members.{Mut, Called}
use Rattle.std.specs.Array.{MapsFrom, IsMapOf}
use Rattle.std.specs.List.{position_or_len, find, range_with_len}
use Rattle.std.specs.Option.{unwrap_or}
use Rattle.std.specs.Prelude.{Option, Some, None}
use Rattle.std.proofs.lemmas.List.{get_or-map}
use Rattle.std.proofs.lemmas.List.Sums.{prefix_len-le-length}
use Rattle.lists.specs.Tests.{some, first_of, apart}
use Rattle.lists.specs.Lowest.{lowest}
use Rattle.lists.proofs.Laws.Pick.{by, no, picks, either-join}
use Rattle.lists.proofs.Laws.Entries.{empty}
use Rattle.lists.proofs.Laws.Library.{pick-cond, first-position}

pub unwrap-cond : {A : Type 0} (b : Bool) (x : A) (o : Option A) (d : A) → unwrap_or (cond b (Some x) o) d ≡ cond b x (unwrap_or o d)
unwrap-cond true x o d = refl
unwrap-cond false x o d = refl

-- the lowest that passes is the first of the numbers from i on that does
pub lowest-found : (p : ℕ → Bool) (i n : ℕ) → lowest p i n ≡ unwrap_or (find p (range_with_len i n)) (i + n)
unfolding lowest
lowest-found p i zero = omega arith
lowest-found p i (suc n) =
    let further : i + suc n ≡ suc i + n = omega arith in
    rw (further, add-one i, unwrap-cond (p i) i (find p (range_with_len (suc i) n)) (suc i + n))
    (pick-cond (p i) i (lowest p (suc i) n) ∙ ap (cond (p i) i) (lowest-found p (suc i) n))

-- ---- whether none are related, item by item

pub apart-found : {A : Type 0} (e : A → A → Bool) (x : A) (xs : List A) → some (e x) xs ≡ true → false ≡ apart e (x ∷ xs)
unfolding apart
apart-found e x xs t = no _ _ _ (ap not t) refl

pub apart-past : {A : Type 0} (e : A → A → Bool) (x : A) (xs : List A) → some (e x) xs ≡ false → apart e (x ∷ xs) ≡ apart e xs
unfolding apart
apart-past e x xs f = picks _ _ _ (ap not f)

-- an item that is related to none is passed by
pub some-none : {A : Type 0} (p : A → Bool) (xs : List A) → ((x : A) → p x ≡ false) → some p xs ≡ false
unfolding some
some-none p [] h = refl
some-none p (x ∷ xs) h = either-join (p x) (some p xs) (h x) (some-none p xs h)

pub apart-none : {A : Type 0} (e : A → A → Bool) (xs : List A) → length xs ≡ 0 → true ≡ apart e xs
unfolding apart
apart-none e xs z = ap (apart e) (sym (empty xs z))

-- ---- what chains give

-- a place that is found, or the number of all
pub first-or : {A : Type 0} (p : A → Bool) (xs : List A) (o : Option ℕ) (n : ℕ) → length xs ≡ n
    → o ≡ cond (ltb (position_or_len p xs) (length xs)) (Some (position_or_len p xs)) None → unwrap_or o n ≡ first_of p xs
first-or p xs o n long e =
    let all : position_or_len p xs ≤ length xs = prefix_len-le-length (λ x. not (p x)) xs in
    ap (λ x. unwrap_or x n) e
    ∙ by (ltb (position_or_len p xs) (length xs))
    (λ t. rw t (sym (first-position p xs)))
    (λ f. rw f (sym (first-position p xs ∙ omega (arith, all, long, ltb-false _ _ f))))

module _ {F A B : Type 0} (g : Mut F (A × Unit {0}) B) (f : F) (h : A → B) (law : (x : A) (y : B) (q : F) → Called g f (x, tt) y q → (q ≡ f) × (y ≡ h x)) where
  map-steps : (n i : ℕ) (xs : List A) (ys : List B) → MapsFrom g f xs ys i n → (j : ℕ) (d : A) (e : B) → i ≤ j → j < i + n → get_or ys j e ≡ h (get_or xs j d)
  map-steps zero i xs ys m j d e low high = absurd (omega arith)
  map-steps (suc n) i xs ys (q, x, y, at-x, at-y, called, rest) j d e low high =
      let same = law x y q called in
      by (eqb j i)
      (λ t. let k : j ≡ i = eqb-true _ _ t in rw k (at-y.1 e ∙ same.1 ∙ ap h (sym (at-x.1 d))))
      (λ u. map-steps n (i + 1) xs ys (subst (λ p. MapsFrom g p xs ys (i + 1) n) same.0 rest) j d e (omega (arith, eqb-false j i u)) (omega arith))

  -- an array's `map`
  pub mapped : (n : ℕ) (xs : List A) (ys : List B) (d : A) → length xs ≡ n → IsMapOf g f xs ys n → ys ≡ map h xs
  mapped n xs ys d long m =
      ext_get_or (h d) ys (map h xs) (m.long ∙ sym long ∙ sym (length-map xs h))
      (λ i low.
      map-steps n 0 xs ys m.each i d (h d) (omega arith) (omega (arith, low, m.long))
      ∙ sym (get_or-map h xs i d (h d) (omega (arith, low, m.long, long))))

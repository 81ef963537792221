-- The library's words for ours: what its iterators and slices say of their results is told in these. Assumes nothing.
use mathlib.Core.Path.{◌≡◌, refl, sym, ap, ◌∙◌}
use mathlib.Core.Bool.{Bool, true, false, not, cond, ◌&&◌, ◌||◌}
use mathlib.Core.List.{List, [], ◌∷◌, map}
use Prim.Native.Nat.{suc, ◌+◌}
use native.Mathlib.Omega.{arith}
use Rattle.std.specs.List.{list_any, list_all, filter, position_or_len, prefix_len}
use Rattle.std.specs.Option.{MatchOption}
use Rattle.std.specs.declared.option.Option.{Option}
use Rattle.std.specs.Fn.{Called}
use Rattle.std.specs.Iterator.{YieldsThen}
use Rattle.std.specs.List.{FoldsTo}
use denote.Param.Members.{Mut}
use Rattle.std.proofs.lemmas.Iterator.{YieldsList}
use Rattle.std.proofs.lemmas.Iterator.Search.{any_from_yields_List, all_from_yields_List}
use Rattle.lists.specs.Pick.{pick, both, either}
use Rattle.lists.specs.Tests.{every, some, those, each, first_of}
use Rattle.lists.proofs.Laws.Pick.{picks, skips, by}

pub pick-cond : {A : Type 0} (b : Bool) (x y : A) → pick b x y ≡ cond b x y
unfolding pick
pick-cond true x y = refl
pick-cond false x y = refl

pub either-or : (a b : Bool) → either a b ≡ (a || b)
unfolding pick
either-or true b = refl
either-or false b = refl

pub both-and : (a b : Bool) → both a b ≡ (a && b)
unfolding pick
both-and true b = refl
both-and false b = refl

module _ {A : Type 0} (p : A → Bool) where
  -- `iter().any(..)`
  pub some-any : (l : List A) → some p l ≡ list_any p l
  unfolding some
  some-any [] = refl
  some-any (x ∷ xs) = either-or (p x) (some p xs) ∙ ap (λ b. p x || b) (some-any xs)

  -- `iter().all(..)`
  pub every-all : (l : List A) → every p l ≡ list_all p l
  unfolding every
  every-all [] = refl
  every-all (x ∷ xs) = both-and (p x) (every p xs) ∙ ap (λ b. p x && b) (every-all xs)

  -- `iter().filter(..)`
  pub those-filter : (l : List A) → those p l ≡ filter p l
  unfolding those
  those-filter [] = refl
  those-filter (x ∷ xs) = pick-cond (p x) (x ∷ those p xs) (those p xs) ∙ ap (λ l. cond (p x) (x ∷ l) l) (those-filter xs)

  -- `iter().position(..)`, and the length where there is none
  pub first-position : (l : List A) → first_of p l ≡ position_or_len p l
  unfolding first_of
  first-position [] = refl
  first-position (x ∷ xs) = by (p x)
      (λ t. picks (p x) 0 (suc (first_of p xs)) t ∙ (let e : position_or_len p (x ∷ xs) ≡ 0 = rw t in sym e))
      (λ f. let next : first_of p xs ≡ prefix_len (λ y. not (p y)) xs = first-position xs in
      let more : position_or_len p (x ∷ xs) ≡ 1 + prefix_len (λ y. not (p y)) xs = rw f in
      let here : first_of p (x ∷ xs) ≡ suc (first_of p xs) = skips (p x) 0 (suc (first_of p xs)) f in
      omega (arith, next, more, here))

-- `iter().map(..)`
pub each-map : {A B : Type 0} (f : A → B) (l : List A) → each f l ≡ map f l
unfolding each
each-map f [] = refl
each-map f (x ∷ xs) = ap (λ l. f x ∷ l) (each-map f xs)

-- ---- what `any` and `all` answer over a chain that yields a list, where the closure computes a test. Of a slice or an array `xs` the chain
-- proof is `YieldsList-from_slice xs cc` of `Rattle.std.proofs.lemmas.Iterator`, and the last argument `λ x b q k. search (rules, tests)`, with
-- `tests` of `borrow.Author.Tests`: `any-some test _ _ _ c.any.ensures.ran (YieldsList-from_slice xs cc) (λ x b q k. search (rules, tests))`.

module _ {S A B F : Type 0} {steps : S → Option A → S → Type 0} {v : A → B} {g : Mut F (A × Unit {0}) Bool} {s : S} {all : List B} where
  pub any-some : (test : B → Bool) (u : S) (f : F) (r : Bool) →
      (xs : List A) × (o : Option A) × (j : F) × YieldsThen steps s xs o u × FoldsTo (λ p x q. Called g p (x, tt) false q) f xs j
      × MatchOption o (r ≡ false) (λ x. (r ≡ true) × ((h : F) × Called g j (x, tt) true h)) →
      YieldsList steps v s all → ((x : A) (b : Bool) (q : F) → Called g f (x, tt) b q → (q ≡ f) × (b ≡ test (v x))) → r ≡ some test all
  any-some test u f r ran yields says = any_from_yields_List test u f r ran yields says ∙ sym (some-any test all)

  pub all-every : (test : B → Bool) (u : S) (f : F) (r : Bool) →
      (xs : List A) × (o : Option A) × (j : F) × YieldsThen steps s xs o u × FoldsTo (λ p x q. Called g p (x, tt) true q) f xs j
      × MatchOption o (r ≡ true) (λ x. (r ≡ false) × ((h : F) × Called g j (x, tt) false h)) →
      YieldsList steps v s all → ((x : A) (b : Bool) (q : F) → Called g f (x, tt) b q → (q ≡ f) × (b ≡ test (v x))) → r ≡ every test all
  all-every test u f r ran yields says = all_from_yields_List test u f r ran yields says ∙ sym (every-all test all)

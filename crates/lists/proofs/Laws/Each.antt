-- f of each entry, and a loop that puts it for the entry. Assumes nothing.
use mathlib.Core.Path.{◌≡◌, refl, sym, ap, ◌∙◌}
use mathlib.Core.List.{List, [], ◌∷◌, ◌++◌, append_assoc, append-nil}
use Prim.Native.Nat.{ℕ, suc, ◌+◌, ◌≤◌, ◌<◌}
use native.Mathlib.Numerals.{add-one}
use native.Mathlib.Omega.{arith}
use lib.ListN.{length, take, drop, get_or, set, drop_of_length-le}
use lib.Seq.{take_all, take-suc, drop-cons, set_at, length-take-le}
use Rattle.lists.specs.Tests.{each}

pub each_both : {A B : Type 0} (f : A → B) (l m : List A) → each f (l ++ m) ≡ each f l ++ each f m
unfolding each
each_both f [] m = refl
each_both f (x ∷ l) m = ap (λ (r : List _). f x ∷ r) (each_both f l m)

pub length-each : {A B : Type 0} (f : A → B) (l : List A) → length (each f l) ≡ length l
unfolding each
length-each f [] = refl
length-each f (x ∷ xs) = ap suc (length-each f xs)

module _ {A : Type 0} (f : A → A) where
  -- ---- the loop: those below i were put

  each_more : (l : List A) (x : A) → each f (l ++ (x ∷ [])) ≡ each f l ++ (f x ∷ [])
  unfolding each
  each_more l x = each_both f l (x ∷ [])

  pub each_none : (l : List A) → l ≡ each f (take 0 l) ++ drop 0 l
  unfolding each
  each_none l = refl

  pub each-one : (l e : List A) (i : ℕ) (d : A) {n : ℕ} → length l ≡ n → i < n → e ≡ each f (take i l) ++ drop i l
      → set e i (f (get_or l i d)) ≡ each f (take (i + 1) l) ++ drop (i + 1) l
  each-one l e i d {n} en h q =
      let one : each f (take (i + 1) l) ≡ each f (take i l) ++ (f (get_or l i d) ∷ []) =
      rw (add-one i, take-suc l i d (omega arith)) (each_more (take i l) (get_or l i d)) in
      let long : length (each f (take i l)) ≡ i = length-each f (take i l) ∙ length-take-le i l (omega arith) in
      let rest : drop i l ≡ get_or l i d ∷ drop (i + 1) l = rw (add-one i) (drop-cons l i d (omega arith)) in
      ap (λ (x : List A). set x i (f (get_or l i d))) (q ∙ ap (λ (x : List A). each f (take i l) ++ x) rest)
      ∙ set_at (each f (take i l)) (get_or l i d) (drop (i + 1) l) (f (get_or l i d)) i long
      ∙ sym (append_assoc (each f (take i l)) (f (get_or l i d) ∷ []) (drop (i + 1) l)) ∙ ap (λ (x : List A). x ++ drop (i + 1) l) (sym one)

  pub each_all : (l e : List A) (i : ℕ) {n : ℕ} → length l ≡ n → n ≤ i → e ≡ each f (take i l) ++ drop i l → e ≡ each f l
  each_all l e i en h q = q ∙ rw (take_all i l (omega arith), drop_of_length-le l {i = i} (omega arith)) (append-nil (each f l))

-- `same` says yes exactly when the lists are equal, and it is what std's equality of slices says. Assumes nothing.
use Rattle.lists.proofs.Kit.{◌≡◌, refl, sym, ap, ◌∙◌, Bool, true, false, List, [], ◌∷◌, ℕ, eqb, eqb-true, eq-eqb}
use mathlib.Core.Bool.{◌&&◌}
use lib.Pointwise.{pointwise}
use Rattle.lists.specs.Pick.{both, pick}
use Rattle.lists.proofs.Laws.Pick.{both-join, both_left, both_right, never}
use Rattle.area.specs.Area.{same}

pub same_refl : (a : List ℕ) → same a a ≡ true
unfolding same
same_refl [] = refl
same_refl (x ∷ xs) = both-join _ _ (eq-eqb x x refl) (same_refl xs)

pub same-eq : (a b : List ℕ) → same a b ≡ true → a ≡ b
unfolding same
same-eq [] [] e = refl
same-eq [] (y ∷ ys) e = never (sym e)
same-eq (x ∷ xs) [] e = never (sym e)
same-eq (x ∷ xs) (y ∷ ys) e =
    let p : x ≡ y = eqb-true x y (both_left _ _ e) in
    let q : xs ≡ ys = same-eq xs ys (both_right _ _ e) in
    λ i. p i ∷ q i

pub eq-same : (a b : List ℕ) → a ≡ b → same a b ≡ true
eq-same a b e = ap (same a) (sym e) ∙ same_refl a

-- std's equality of slices
pub pointwise-same : (a b : List ℕ) → pointwise eqb a b ≡ same a b
unfolding same pick
pointwise-same [] [] = refl
pointwise-same [] (y ∷ ys) = refl
pointwise-same (x ∷ xs) [] = refl
pointwise-same (x ∷ xs) (y ∷ ys) = go (eqb x y) (pointwise-same xs ys) where
  go : (t : Bool) {u v : Bool} → u ≡ v → (t && u) ≡ both t v
  go true e = e
  go false e = refl

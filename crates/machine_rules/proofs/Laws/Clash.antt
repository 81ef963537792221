-- No two staged positions have one slot, after one entry is set. Assumes nothing.
use Rattle.lists.proofs.Kit.{◌≡◌, refl, ap, true, false, not, List, [], ◌∷◌, ℕ, zero, suc, set, eqb, not-true}
use Rattle.lists.specs.Tests.{some, apart}
use Rattle.lists.proofs.Laws.Pick.{by, both-join, both_left, both_right, both-not-left, both-not-right, either-join}
use Rattle.lists.proofs.Laws.Some.{eqb_swap, some-set, some_first, some-tail}
use Rattle.host.specs.Empty.{none}
use Rattle.host.specs.Order.{clash}

no-clash : (v y : ℕ) → (eqb v none ≡ false → eqb v y ≡ false) → clash v y ≡ false
unfolding clash
no-clash v y f = by (eqb v none) (λ e. both-not-left _ _ (ap not e)) (λ e. both-not-right _ _ (both-not-right _ _ (f e)))

no-clash-with : (x v : ℕ) → (eqb v none ≡ false → eqb x v ≡ false) → clash x v ≡ false
unfolding clash
no-clash-with x v f = by (eqb v none) (λ e. both-not-right _ _ (both-not-left _ _ (ap not e))) (λ e. both-not-right _ _ (both-not-right _ _ (f e)))

none-clash : (v : ℕ) (l : List ℕ) → (eqb v none ≡ false → some (eqb v) l ≡ false) → some (clash v) l ≡ false
unfolding some
none-clash v [] f = refl
none-clash v (y ∷ ys) f = either-join _ _ (no-clash v y (λ e. some_first v y ys (f e))) (none-clash v ys (λ e. some-tail v y ys (f e)))

-- a slot that no position has is set, or none
pub apart-set : (l : List ℕ) (i v : ℕ) → (eqb v none ≡ false → some (eqb v) l ≡ false) → apart clash l ≡ true → apart clash (set l i v) ≡ true
unfolding apart
apart-set [] i v f h = h
apart-set (x ∷ xs) zero v f h = both-join _ _ (ap not (none-clash v xs (λ e. some-tail v x xs (f e)))) (both_right _ _ h)
apart-set (x ∷ xs) (suc i) v f h =
    both-join _ _
    (ap not (some-set (clash x) xs i v (not-true _ (both_left _ _ h)) (no-clash-with x v (λ e. eqb_swap v x (some_first v x xs (f e))))))
    (apart-set xs i v (λ e. some-tail v x xs (f e)) (both_right _ _ h))

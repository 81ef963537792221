-- A part of zeros is zeros. Assumes nothing.
use Rattle.lists.proofs.Kit.{◌≡◌, refl, ap, List, ◌∷◌, ℕ, zero, suc, ◌+◌, ◌≤◌, arith, take}
use Rattle.area.specs.Area.{part, zeros}

take-zeros : (n k : ℕ) → k ≤ n → take k (zeros n) ≡ zeros k
take-zeros n zero h = refl
take-zeros zero (suc k) h = absurd (omega arith)
take-zeros (suc n) (suc k) h = ap (λ (l : List ℕ). 0 ∷ l) (take-zeros n k (omega arith))

pub part-zeros : (n at k : ℕ) → at + k ≤ n → part (zeros n) at k ≡ zeros k
unfolding part
part-zeros n zero k h = take-zeros n k (omega arith)
part-zeros zero (suc at) k h = absurd (omega arith)
part-zeros (suc n) (suc at) k h = part-zeros n at k (omega arith)

-- The root of zeros by doubling: both halves of a power of two of segments are zeros, so the RFC's equation has one root twice. And the
-- loop that doubles: after k turns it holds the root of 2 ^ k segments of zeros. Assumes nothing.
use Rattle.lists.proofs.Kit.{◌≡◌, refl, sym, ap, ap₂, ◌∙◌, false, List, ℕ, zero, suc, ◌+◌, ◌-◌, ◌*◌, ◌/◌, ◌^◌, ◌≤◌, ◌<◌, two-pow-succ, arith, length-replicate}
use lib.Pow.{pow_pos, pow_mono}
use Rattle.area.specs.Area.{zeros}
use Rattle.area.specs.Slots.{Size}
use Rattle.area.proofs.Laws.Parts.{part-whole}
use Rattle.tree.specs.Tree.{leaf, leaf_of, node, root}
use Rattle.tree.specs.Zeros.{doubled}
use Rattle.tree.proofs.Laws.Sides.{split}
use Rattle.tree.proofs.Laws.Zeros.{part-zeros}
use Rattle.tree.proofs.Theorems.{rfc-leaf, rfc-6962}

pub zeros-doubled : (k : ℕ) → k ≤ 64 → root (zeros (64 * 2 ^ k)) ≡ doubled k
unfolding doubled
zeros-doubled zero h = rfc-leaf (zeros 64) (length-replicate {A = ℕ} 64 0)
zeros-doubled (suc k) h =
    let n : ℕ = 64 * 2 ^ suc k in
    let p = pow_pos k in
    let two = two-pow-succ k in
    let half : 64 * (2 ^ suc k - 2 ^ k) ≡ 64 * 2 ^ k = omega (arith, two) in
    let below = zeros-doubled k (omega arith) in
    let few = pow_mono {i = suc k} {j = 64} h in
    rfc-6962 (zeros n) (2 ^ suc k) k (length-replicate {A = ℕ} n 0) few (omega (arith, two)) (omega (arith, two))
    ∙ ap₂ node (ap root (part-zeros n 0 (64 * 2 ^ k) (omega (arith, two))) ∙ below)
    (ap root (part-zeros n (64 * 2 ^ k) (64 * (2 ^ suc k - 2 ^ k)) (omega (arith, two)) ∙ ap zeros half) ∙ below)

-- ---- the loop

pub doubled-leaf : {r : List ℕ} → r ≡ leaf_of false (zeros 64) 0 → r ≡ doubled 0
unfolding doubled leaf_of
doubled-leaf e = e ∙ ap leaf (part-whole (zeros 64) 64 refl)

pub doubled-node : {r x : List ℕ} (k : ℕ) → r ≡ doubled k → x ≡ node r r → x ≡ doubled (k + 1)
unfolding doubled
doubled-node k m e =
    let more : suc k ≡ k + 1 = omega arith in
    e ∙ ap (λ (l : List ℕ). node l l) m ∙ ap doubled more

module _ (z : ℕ) (s : Size z) (d : ℕ) (low : 2 ^ d ≤ z / 64) (high : z / 64 < 2 * 2 ^ d) where
  -- the power of two below z's segments is all of them
  levels : d ≡ s.depth
  levels =
      let n : z / 64 ≡ 2 ^ s.depth = omega (arith, s.segments) in
      split d s.depth
      (λ le.
      split s.depth d (λ ge. omega (arith, le, ge))
      (λ less. absurd (omega (arith, high, n, two-pow-succ d, pow_mono {i = suc d} {j = s.depth} less))))
      (λ less. absurd (omega (arith, low, n, two-pow-succ s.depth, pow_pos s.depth, pow_mono {i = suc s.depth} {j = d} less)))

  pub zeros-made : {r : List ℕ} → r ≡ doubled d → r ≡ root (zeros z)
  zeros-made e =
      let deep = s.deep in
      e ∙ ap doubled levels ∙ sym (zeros-doubled s.depth (omega (arith, deep))) ∙ ap (λ (n : ℕ). root (zeros n)) (sym s.segments)

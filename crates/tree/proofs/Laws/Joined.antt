-- A tree over m parts of 2 ^ z segments each, m not 0: it joins the parts' roots, and a walk within one part goes through them. Assumes nothing.
use Rattle.lists.proofs.Kit.{◌≡◌, refl, sym, ap, ap₂, ◌∙◌, true, false, List, ◌++◌, ℕ, ◌+◌, ◌-◌, ◌*◌, ◌/◌, ◌^◌, ◌≤◌, ◌<◌, mul_left_comm, zero-mul}
use Rattle.lists.proofs.Kit.{one-mul, mul-le-mul_left, mul-le-mul_right, le_of_mul-le-mul_right, add-mul, arith, length}
use lib.Pow.{pow-add, pow_pos, pow-lt}
use Rattle.area.specs.Area.{part}
use Rattle.tree.specs.Tree.{leaf_of, tree, root_over, root, join, join_is}
use Rattle.tree.specs.Walk.{walk, proof, proof_in, proof-is, proof-in-is}
use Rattle.tree.specs.Promise.{Parted}
use Rattle.tree.proofs.Laws.Sides.{split}
use Rattle.tree.proofs.Laws.Trees.{tree-deep, tree-same, root-some}
use Rattle.tree.proofs.Laws.Shifts.{walk-deep, walk_same}
use Rattle.tree.proofs.Laws.Parted.{part_root, tree-parts}
use Rattle.tree.proofs.Laws.Inside.{walk-within}
use Rattle.tree.proofs.Laws.Whole.{part-root, part-proof, whole-root}

-- a power of two below 2 ^ 64, or a count of at most 2 ^ 64
pub small : (z n : ℕ) → 2 ^ z ≤ n → n ≤ 2 ^ 64 → z ≤ 64
small z n a b = split z 64 (λ le. le) (λ gt. absurd (omega (arith, pow-lt {i = 64} {j = z} gt)))

module _ (z m : ℕ) (b rs : List ℕ) (p : Parted root z m b rs) (some : 0 < m) where
  one : 2 ^ z ≤ m * 2 ^ z
  one = omega (arith, one-mul (2 ^ z), mul-le-mul_right {m = 1} {n = m} (2 ^ z) some)

  deep : z ≤ 64
  deep = small z (m * 2 ^ z) one p.few

  depth : z + (64 - z) ≡ 64
  depth = let h = deep in omega arith

  holds : m ≤ 2 ^ (64 - z)
  holds =
      let h = deep in
      let e : 2 ^ 64 ≡ 2 ^ (64 - z) * 2 ^ z = ap (λ (x : ℕ). 2 ^ x) (let k : 64 ≡ 64 - z + z = omega arith in k) ∙ pow-add 2 (64 - z) z in
      le_of_mul-le-mul_right {m = m} {n = 2 ^ (64 - z)} {k = 2 ^ z} (omega (arith, p.few, e)) (pow_pos z)

  segments : length b ≡ 64 * (m * 2 ^ z)
  segments = p.whole ∙ mul_left_comm m 64 (2 ^ z)

  -- part i stands at its segments, within b
  place : (i : ℕ) → i * (64 * 2 ^ z) ≡ 64 * (i * 2 ^ z)
  place i = mul_left_comm i 64 (2 ^ z)

  fits : (i : ℕ) → i < m → i * (64 * 2 ^ z) + 64 * 2 ^ z ≤ length b
  fits i h =
      let e = add-mul i 1 (64 * 2 ^ z) in
      omega (arith, p.whole, e, one-mul (64 * 2 ^ z), mul-le-mul_right {m = i + 1} {n = m} (64 * 2 ^ z) (omega arith))

  each-root : (i : ℕ) → i < m → leaf_of true rs i ≡ part_root z (leaf_of false b) i
  unfolding leaf_of
  each-root i h =
      p.each i h
      ∙ part-root b (i * (64 * 2 ^ z)) (64 * 2 ^ z) (i * 2 ^ z) (2 ^ z) (place i) refl (fits i h) (pow_pos z) z deep (omega arith)

  top : m ≤ 2 ^ 64
  top = let h = one in let q = pow_pos z in omega (arith, p.few, mul-le-mul_left {m = 1} {n = 2 ^ z} m q)

  parts-count : length rs / 32 ≡ m
  parts-count = omega (arith, p.given)

  pub joined-parts : root b ≡ join rs
  joined-parts =
      let f : ℕ → List ℕ = leaf_of false b in
      whole-root b (m * 2 ^ z) segments (let q = pow_pos z in let h = one in omega arith)
      ∙ ap₂ (λ (d x : ℕ). tree d x (m * 2 ^ z) f) (sym depth) (sym (zero-mul (2 ^ z)))
      ∙ tree-parts z f (64 - z) 0 m some holds
      ∙ sym (tree-deep (64 - z) 0 m (part_root z f) (omega arith) holds)
      ∙ sym (tree-same 64 0 m (leaf_of true rs) (part_root z f) some top (λ i lo hi. each-root i (omega arith)))
      ∙ sym (join_is rs ∙ ap (λ (n : ℕ). root_over n (leaf_of true rs)) parts-count ∙ root-some m (leaf_of true rs) some)

  -- the walk over the roots is the walk over the parts
  over-roots : (s e : ℕ) → walk 64 0 (length rs / 32) s e (leaf_of true rs) ≡ walk (64 - z) 0 m s e (part_root z (leaf_of false b))
  over-roots s e =
      ap (λ (n : ℕ). walk 64 0 n s e (leaf_of true rs)) parts-count
      ∙ walk_same s e (leaf_of true rs) (part_root z (leaf_of false b)) 64 0 m some top (λ i lo hi. each-root i (omega arith))
      ∙ walk-deep (64 - z) 0 m s e (part_root z (leaf_of false b)) (omega arith) holds

  pub walked-parts : (at s e : ℕ) → at < m → s < e → e ≤ 2 ^ z
      → proof_in rs at (part b (at * (64 * 2 ^ z)) (64 * 2 ^ z)) s e ≡ proof b (s + at * 2 ^ z) (e + at * 2 ^ z)
  walked-parts at s e h lt le =
      let f : ℕ → List ℕ = leaf_of false b in
      let c : ℕ = at * 2 ^ z in
      let n : length b / 64 ≡ m * 2 ^ z = omega (arith, segments) in
      proof-in-is rs at (part b (at * (64 * 2 ^ z)) (64 * 2 ^ z)) s e
      ∙ ap₂ ◌++◌ (over-roots at (length rs / 32) ∙ ap (λ (x : ℕ). walk (64 - z) 0 m at x (part_root z f)) parts-count)
      (ap₂ ◌++◌ (part-proof b (at * (64 * 2 ^ z)) (64 * 2 ^ z) c (2 ^ z) (place at) refl (fits at h) (pow_pos z) z deep (omega arith) s e)
      (over-roots 0 (at + 1)))
      ∙ sym (walk-within z at s e m f lt le (64 - z) 0 m (omega arith) (omega arith) holds (omega arith))
      ∙ sym (ap₂ (λ (d x : ℕ). walk d x (m * 2 ^ z) (s + c) (e + c) f) (sym depth) (sym (zero-mul (2 ^ z))))
      ∙ sym (proof-is b (s + c) (e + c) ∙ ap (λ (x : ℕ). walk 64 0 x (s + c) (e + c) f) n)

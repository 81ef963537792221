-- The proof of a range within one part, whatever the parts' roots are. How long it is depends on counts alone, so it is as long as for
-- zeros, whose parts are all alike; of one part alone the walks over the roots are empty. Assumes nothing.
use Rattle.lists.proofs.Kit.{◌≡◌, refl, sym, ap, ap₂, ◌∙◌, true, List, [], ◌++◌, append-nil, ℕ, zero, suc, ◌+◌, ◌*◌, ◌/◌, ◌^◌, ◌≤◌, ◌<◌, mul_left_comm}
use Rattle.lists.proofs.Kit.{one-mul, mul-le-mul_left, mul-le-mul_right, arith, length, take, drop, length-append, length-replicate, take_at}
use Rattle.lists.proofs.Kit.{drop-append-add}
use lib.Pow.{pow_pos}
use Rattle.area.specs.Area.{part, zeros}
use Rattle.area.proofs.Laws.Parts.{length_part}
use Rattle.area.proofs.Laws.Slots.{slot-ends}
use Rattle.tree.specs.Tree.{leaf_of, root}
use Rattle.tree.specs.Walk.{walk, hashes, count, proof, proof_in, proof-in-is}
use Rattle.tree.specs.Asks.{Within}
use Rattle.tree.specs.Promise.{Parted}
use Rattle.tree.proofs.Laws.Sides.{in-of}
use Rattle.tree.proofs.Laws.Walks.{walk-in}
use Rattle.tree.proofs.Laws.Lengths.{root-long}
use Rattle.tree.proofs.Laws.Within.{in-long}
use Rattle.tree.proofs.Laws.Zeros.{part-zeros}
use Rattle.tree.proofs.Theorems.{within-a-part, count-counts}

-- ---- parts that are all alike

-- one root m times
unfoldable alike : ℕ → List ℕ → List ℕ
alike zero r = []
alike (suc m) r = r ++ alike m r

module _ (r : List ℕ) (long : length r ≡ 32) where
  alike-long : (m : ℕ) → length (alike m r) ≡ 32 * m
  unfolding alike
  alike-long zero = refl
  alike-long (suc m) = length-append r (alike m r) ∙ omega (arith, alike-long m)

  alike-each : (m i : ℕ) → i < m → part (alike m r) (32 * i) 32 ≡ r
  unfolding alike part
  alike-each zero i h = absurd (omega arith)
  alike-each (suc m) zero h = take_at r (alike m r) 32 long
  alike-each (suc m) (suc i) h =
      ap (λ (k : ℕ). take 32 (drop k (r ++ alike m r))) (let e : 32 * suc i ≡ length r + 32 * i = omega arith in e)
      ∙ ap (take 32) (drop-append-add r (alike m r) (32 * i))
      ∙ alike-each m i (omega arith)

zeros-parted : (z m : ℕ) → m * 2 ^ z ≤ 2 ^ 64
    → Parted root z m (zeros (m * (64 * 2 ^ z))) (alike m (root (zeros (64 * 2 ^ z))))
zeros-parted z m few =
    let k : ℕ = 64 * 2 ^ z in
    let long = root-long (zeros k) in
    record {
      whole = length-replicate {A = ℕ} (m * k) 0;
      given = alike-long (root (zeros k)) long m;
      few = few;
      each = λ i h. alike-each (root (zeros k)) long m i h ∙ sym (ap root (part-zeros (m * k) (i * k) k (slot-ends k i m h)));
    }

-- ---- how long it is

as_long : (rs rs' : List ℕ) (at : ℕ) (b b' : List ℕ) (s e : ℕ) → Within rs at b → length rs / 32 ≤ 2 ^ 64 → length b / 64 ≤ 2 ^ 64
    → length rs ≡ length rs' → length b ≡ length b' → length (proof_in rs at b s e) ≡ length (proof_in rs' at b' s e)
as_long rs rs' at b b' s e w few small p q =
    in-long rs at b s e w few small
    ∙ ap₂ (λ (x y : ℕ). 32 * hashes 64 0 (x / 32) at (x / 32) + 32 * hashes 64 0 (y / 64) s e + 32 * hashes 64 0 (x / 32) 0 (at + 1)) p q
    ∙ sym (in-long rs' at b' s e (record { here = omega (arith, w.here); some = omega (arith, w.some) }) (omega arith) (omega arith))

-- The count counts it.
pub in-part-long : (z m at s e : ℕ) (rs b : List ℕ) → length rs ≡ 32 * m → length b ≡ 64 * 2 ^ z → m * 2 ^ z ≤ 2 ^ 64 → at < m → s < e
    → e ≤ 2 ^ z → length (proof_in rs at b s e) ≡ 32 * count (m * 2 ^ z) (s + at * 2 ^ z) (e + at * 2 ^ z)
in-part-long z m at s e rs b given long few here lt le =
    let k : ℕ = 64 * 2 ^ z in
    let all : List ℕ = zeros (m * k) in
    let one = pow_pos z in
    let own : 2 ^ z ≤ m * 2 ^ z = omega (arith, one-mul (2 ^ z), mul-le-mul_right {m = 1} {n = m} (2 ^ z) (omega arith)) in
    let parts : m ≤ 2 ^ 64 = omega (arith, few, mul-le-mul_left {m = 1} {n = 2 ^ z} m one) in
    let whole : length all ≡ m * k = length-replicate {A = ℕ} (m * k) 0 in
    let n : length all / 64 ≡ m * 2 ^ z = omega (arith, whole, mul_left_comm m 64 (2 ^ z)) in
    let p = zeros-parted z m few in
    as_long rs (alike m (root (zeros k))) at b (part all (at * k) k) s e (record { here = omega arith; some = omega arith })
    (omega (arith, parts)) (omega (arith, own)) (given ∙ sym p.given)
    (long ∙ sym (length_part all (at * k) k (omega (arith, whole, slot-ends k at m here))))
    ∙ ap length (within-a-part z m all (alike m (root (zeros k))) p at s e here lt le)
    ∙ count-counts all (s + at * 2 ^ z) (e + at * 2 ^ z) (omega (arith, n, own, one)) (omega (arith, n, few))
    ∙ ap (λ (x : ℕ). 32 * count x (s + at * 2 ^ z) (e + at * 2 ^ z)) n

-- ---- one part alone

pub alone : (rs b : List ℕ) (s e : ℕ) → length rs ≡ 32 → proof_in rs 0 b s e ≡ proof b s e
alone rs b s e long =
    let one : length rs / 32 ≡ 1 = omega arith in
    let f : ℕ → List ℕ = leaf_of true rs in
    let none : walk 64 0 1 0 1 f ≡ [] = walk-in f 64 0 1 0 1 (in-of 0 1 0 1 (omega arith) (omega arith) (omega arith)) in
    proof-in-is rs 0 b s e
    ∙ ap (λ (k : ℕ). walk 64 0 k 0 k f ++ (proof b s e ++ walk 64 0 k 0 (0 + 1) f)) one
    ∙ ap₂ (λ (x y : List ℕ). x ++ (proof b s e ++ y)) none none
    ∙ append-nil (proof b s e)

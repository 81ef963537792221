-- Roots and proofs over the sectors' roots, with these worked out from the bytes, are those of all the bytes: document 01's words. And how
-- long a proof is, whatever the roots are. Assumes nothing.
use Rattle.lists.proofs.Kit.{◌≡◌, refl, sym, ap, ap₂, ◌∙◌, Bool, true, List, [], ◌∷◌, ℕ, ◌+◌, ◌*◌, ◌/◌, ◌%◌, ◌^◌, ◌≤◌, ◌<◌, div-add-mod', mul_left_comm}
use Rattle.lists.proofs.Kit.{mul_comm, arith, length, get_or}
use Rattle.lists.specs.Tests.{every}
use Rattle.lists.proofs.Laws.Entries.{any-default}
use Rattle.lists.proofs.Laws.Every.{every_get}
use Rattle.area.specs.Area.{part}
use Rattle.tree.specs.Tree.{root, join}
use Rattle.tree.specs.Walk.{count, proof, proof_in}
use Rattle.tree.specs.Promise.{Parted}
use Rattle.tree.proofs.Promise.{roots, proofs}
use Rattle.sia.specs.Encode.{joined}
use Rattle.machine_rules.specs.View.{sector, whole}
use Rattle.machine_rules.specs.Roots.{sector_root, contract_root, range_proof, range_count}
use Rattle.machine_rules.specs.Facts.{Within}
use Rattle.machine_rules.proofs.Laws.Pieces.{length-pieces, part-pieces}
use Rattle.machine_rules.specs.declared.Spot.{Spot}
use Rattle.machine_rules.specs.declared.Spot.TheVariants.{OnDisk}

-- ---- segments of sectors of 2 ^ k segments

module _ (z k : ℕ) (is : z ≡ 64 * 2 ^ k) (at n m : ℕ) (w : Within z m at n) where
  split_at : at ≡ 64 * (at / z * 2 ^ k) + at % z
  split_at =
      let e : at / z * z ≡ 64 * (at / z * 2 ^ k) = ap (λ (x : ℕ). at / z * x) is ∙ mul_left_comm (at / z) 64 (2 ^ k) in
      omega (arith, div-add-mod' at z)

  pub starts : at % z / 64 + at / z * 2 ^ k ≡ at / 64
  starts = let e = split_at in let c = at / z * 2 ^ k in omega (arith, split_at)

  pub ends : at % z / 64 + n / 64 + at / z * 2 ^ k ≡ (at + n) / 64
  ends = omega (arith, split_at, w.first, w.many)

  pub goes-up : at % z / 64 < at % z / 64 + n / 64
  goes-up = omega (arith, w.some, w.many)

  pub stays-in : at % z / 64 + n / 64 ≤ 2 ^ k
  stays-in = omega (arith, w.one, is)

-- ---- the bridge to all the bytes

no-case : (f : Spot → List ℕ) (l : List Spot) → contract_root f l ≡ join (joined f l)
unfolding contract_root joined
no-case f [] = sym roots.nothing ∙ roots.joins 0 0 [] [] (record { whole = refl; given = refl; few = omega arith; each = λ i lt. absurd (omega arith) })
no-case f (x ∷ xs) = refl

same_whole : (z : ℕ) (disk stage : List ℕ) (l : List Spot) (at n : ℕ) → part (joined (sector z disk stage) l) at n ≡ part (whole z disk stage l) at n
unfolding whole
same_whole z disk stage l at n = refl

range-is : (z : ℕ) (f : Spot → List ℕ) (disk stage : List ℕ) (l : List Spot) (at n : ℕ) → at / z < length l
    → range_proof z f disk stage l at n ≡ proof_in (joined f l) (at / z) (sector z disk stage (get_or l (at / z) (OnDisk 0))) (at % z / 64) (at % z / 64 + n / 64)
unfolding range_proof
range-is z f disk stage [] at n lt = absurd (omega arith)
range-is z f disk stage (x ∷ xs) at n lt =
    ap (λ (y : Spot). proof_in (joined f (x ∷ xs)) (at / z) (sector z disk stage y) (at % z / 64) (at % z / 64 + n / 64))
    (any-default (x ∷ xs) (at / z) x (OnDisk 0) lt)

module _ (z k : ℕ) (is : z ≡ 64 * 2 ^ k) (disk stage : List ℕ) (p : Spot → Bool) (long : (x : Spot) → p x ≡ true → length (sector z disk stage x) ≡ z)
    (l : List Spot) (h : every p l ≡ true)
    (few : length l * 2 ^ k ≤ 2 ^ 64) where
  root-sized : (x : Spot) → p x ≡ true → length (sector_root z disk stage x) ≡ 32
  unfolding sector_root
  root-sized x e = roots.root-long (sector z disk stage x)

  rooted : (i : ℕ) → i < length l → part (joined (sector_root z disk stage) l) (32 * i) 32 ≡ root (part (whole z disk stage l) (i * (64 * 2 ^ k)) (64 * 2 ^ k))
  unfolding whole sector_root
  rooted i lt =
      ap (λ (n : ℕ). part (joined (sector_root z disk stage) l) n 32) (mul_comm 32 i)
      ∙ part-pieces p (sector_root z disk stage) 32 root-sized l i (OnDisk 0) h lt
      ∙ ap root (sym (part-pieces p (sector z disk stage) z long l i (OnDisk 0) h lt))
      ∙ ap (λ (n : ℕ). root (part (joined (sector z disk stage) l) (i * n) n)) is

  parted : Parted root k (length l) (whole z disk stage l) (joined (sector_root z disk stage) l)
  unfolding whole
  parted = record {
    whole = length-pieces p (sector z disk stage) z long l h ∙ ap (λ (n : ℕ). length l * n) is;
    given = length-pieces p (sector_root z disk stage) 32 root-sized l h ∙ mul_comm (length l) 32;
    few = few;
    each = rooted;
  }

  -- "the tree's root of all the contract's bytes"
  pub contract-worked : contract_root (sector_root z disk stage) l ≡ root (whole z disk stage l)
  contract-worked = over-all l ∙ sym (roots.joins k (length l) (whole z disk stage l) (joined (sector_root z disk stage) l) parted)
    where
      over-all : (m : List Spot) → contract_root (sector_root z disk stage) m ≡ join (joined (sector_root z disk stage) m)
      over-all m = no-case (sector_root z disk stage) m

  -- "walk the tree (Read: the contract as read; ReadSector: the sector)"
  pub proof-worked : (at n : ℕ) → Within z (length l) at n → range_proof z (sector_root z disk stage) disk stage l at n
      ≡ proof (whole z disk stage l) (at / 64) ((at + n) / 64)
  proof-worked at n w =
      range-is z (sector_root z disk stage) disk stage l at n w.below
      ∙ ap (λ (b : List ℕ). proof_in (joined (sector_root z disk stage) l) (at / z) b (at % z / 64) (at % z / 64 + n / 64))
      (sym (part-pieces p (sector z disk stage) z long l (at / z) (OnDisk 0) h w.below)
      ∙ ap (λ (x : ℕ). part (joined (sector z disk stage) l) (at / z * x) x) is ∙ whole_is)
      ∙ proofs.within k (length l) (whole z disk stage l) (joined (sector_root z disk stage) l) parted (at / z) (at % z / 64) (at % z / 64 + n / 64)
      w.below (goes-up z k is at n (length l) w) (stays-in z k is at n (length l) w)
      ∙ ap₂ (proof (whole z disk stage l)) (starts z k is at n (length l) w) (ends z k is at n (length l) w)
    where
      whole_is : part (joined (sector z disk stage) l) (at / z * (64 * 2 ^ k)) (64 * 2 ^ k) ≡ part (whole z disk stage l) (at / z * (64 * 2 ^ k)) (64 * 2 ^ k)
      whole_is = same_whole z disk stage l (at / z * (64 * 2 ^ k)) (64 * 2 ^ k)

-- ---- its length

pub proof-counted : (z k : ℕ) → z ≡ 64 * 2 ^ k → (f : Spot → List ℕ) (disk stage : List ℕ) (p : Spot → Bool)
    → ((x : Spot) → p x ≡ true → length (sector z disk stage x) ≡ z)
    → ((x : Spot) → p x ≡ true → length (f x) ≡ 32) → (l : List Spot) → every p l ≡ true → length l * 2 ^ k ≤ 2 ^ 64 → (at n : ℕ) → Within z (length l) at n
    → length (range_proof z f disk stage l at n) ≡ 32 * range_count z (length l) at n
unfolding range_count
proof-counted z k is f disk stage p long sized l h few at n w =
    let q : z / 64 ≡ 2 ^ k = omega (arith, is) in
    ap length (range-is z f disk stage l at n w.below)
    ∙ proofs.within-long k (length l) (at / z) (at % z / 64) (at % z / 64 + n / 64) (joined f l) (sector z disk stage (get_or l (at / z) (OnDisk 0)))
    (length-pieces p f 32 sized l h ∙ mul_comm (length l) 32)
    (long (get_or l (at / z) (OnDisk 0)) (every_get p l (at / z) (OnDisk 0) w.below h) ∙ is)
    few w.below (goes-up z k is at n (length l) w) (stays-in z k is at n (length l) w)
    ∙ (λ i. 32 * count (length l * sym q i) (starts z k is at n (length l) w i) (ends z k is at n (length l) w i))

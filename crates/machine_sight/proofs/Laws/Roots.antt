-- Roots of sectors, and the root and proofs of all that is seen, from the roots kept beside its sectors. Assumes nothing.
use Rattle.lists.proofs.Kit.{◌≡◌, refl, sym, ap, ◌∙◌, true, List, [], ◌∷◌, append-nil, ℕ, ◌+◌, ◌*◌, ◌/◌, ◌%◌, ◌^◌, ◌≤◌, ◌<◌, mul_comm, arith, length, get_or}
use Rattle.lists.specs.Tab.{tab}
use Rattle.lists.proofs.Laws.Tab.{length-tab, get_or-tab}
use Rattle.area.specs.Area.{zeros}
use Rattle.area.specs.Slots.{Size}
use Rattle.sia.specs.Encode.{joined}
use Rattle.tree.specs.Tree.{root, join}
use Rattle.tree.specs.Walk.{proof, proof_in}
use Rattle.tree.proofs.Promise.{roots, proofs}
use Rattle.machine_rules.specs.View.{sector, spot_of}
use Rattle.machine_rules.specs.Roots.{sector_root, kept_root, contract_root, range_proof}
use Rattle.machine_rules.proofs.Laws.Pieces.{length-pieces}
use Rattle.machine_rules.specs.declared.Spot.{Spot}
use Rattle.machine_sight.specs.Seen.{spots_of, lies, Known, Ranged}
use Rattle.machine_sight.specs.declared.Seen.{Seen}
use Rattle.machine_sight.proofs.Laws.Sectors.{sector-long, seen-lies}

-- ---- of a sector

pub root_is : (z : ℕ) (disk stage : List ℕ) (x : Spot) {b r : List ℕ} → b ≡ sector z disk stage x → r ≡ root b
    → r ≡ sector_root z disk stage x
unfolding sector_root
root_is z disk stage x e q = q ∙ ap root e

kept-long : (diskroots stageroots : List ℕ) (x : Spot) → lies 32 diskroots stageroots x ≡ true
    → length (kept_root diskroots stageroots x) ≡ 32
unfolding kept_root
kept-long diskroots stageroots x h = sector-long 32 diskroots stageroots x h

-- ---- of a Seen

pub seen-count : (v : Seen) → length (spots_of v) ≡ v.count
unfolding spots_of
seen-count v = length-tab 0 v.count (spot_of v.slots v.staged)

pub seen_at : (v : Seen) (i : ℕ) (d : Spot) → i < v.count → get_or (spots_of v) i d ≡ spot_of v.slots v.staged i
unfolding spots_of
seen_at v i d h =
    get_or-tab 0 v.count (spot_of v.slots v.staged) i d h ∙ ap (spot_of v.slots v.staged) (let q : 0 + i ≡ i = omega arith in q)

-- a range of segments within its sector
pub ranges : (z : ℕ) (size : Size z) (m at n : ℕ) → Ranged z m at n
    → (at % z / 64 < at % z / 64 + n / 64) × (at % z / 64 + n / 64 ≤ 2 ^ size.depth)
ranges z size m at n g = (omega (arith, g.some, g.whole), omega (arith, g.inside.one, size.segments))

module _ (f : Spot → List ℕ) (v : Seen) where
  -- of no sector
  pub seen_none : v.count ≡ 0 → zeros 32 ≡ contract_root f (spots_of v)
  unfolding contract_root
  seen_none e = none (spots_of v) (seen-count v ∙ e) where
    none : (l : List Spot) → length l ≡ 0 → zeros 32 ≡ contract_root f l
    none [] q = refl
    none (x ∷ xs) q = absurd (omega arith)

  -- of one or more: rs are their roots
  module _ {rs : List ℕ} (e : rs ≡ joined f (spots_of v)) where
    pub seen-join : (v.count ≡ 0 → ⊥) → join rs ≡ contract_root f (spots_of v)
    unfolding contract_root
    seen-join other = ap join e ∙ some (spots_of v) (λ q. other (sym (seen-count v) ∙ q)) where
      some : (l : List Spot) → (length l ≡ 0 → ⊥) → join (joined f l) ≡ contract_root f l
      some [] q = absurd (q refl)
      some (x ∷ xs) q = refl

    -- b are the bytes of the sector that the range is in
    module _ (z : ℕ) (disk stage : List ℕ) (at n : ℕ) {b : List ℕ} (lt : at / z < v.count)
        (q : b ≡ sector z disk stage (spot_of v.slots v.staged (at / z))) where
      pub seen-proof : proof_in rs (at / z) b (at % z / 64) (at % z / 64 + n / 64) ≡ range_proof z f disk stage (spots_of v) at n
      unfolding range_proof
      seen-proof =
          (λ i. proof_in (e i) (at / z) (q i) (at % z / 64) (at % z / 64 + n / 64))
          ∙ here (spots_of v) (omega (arith, seen-count v)) (λ d. seen_at v (at / z) d lt) where
            within : List Spot → Spot → List ℕ
            within l x = proof_in (joined f l) (at / z) (sector z disk stage x) (at % z / 64) (at % z / 64 + n / 64)

            here : (l : List Spot) → at / z < length l → ((d : Spot) → get_or l (at / z) d ≡ spot_of v.slots v.staged (at / z))
                → within l (spot_of v.slots v.staged (at / z)) ≡ range_proof z f disk stage l at n
            here [] below g = absurd (omega arith)
            here (x ∷ xs) below g = ap (within (x ∷ xs)) (sym (g x))

-- ---- by the kept roots

module _ (diskroots stageroots : List ℕ) (v : Seen) (k : Known diskroots stageroots v) where
  pub seen-roots : {rs : List ℕ} → rs ≡ joined (kept_root diskroots stageroots) (spots_of v) → length rs ≡ 32 * v.count
  seen-roots e =
      ap length e
      ∙ length-pieces (lies 32 diskroots stageroots) (kept_root diskroots stageroots) 32 (kept-long diskroots stageroots) _ k.spots
      ∙ mul_comm (length (spots_of v)) 32
      ∙ ap (λ (n : ℕ). 32 * n) (seen-count v)

  -- the root of one sector is the root kept beside it
  pub seen-alone : v.count ≡ 1
      → kept_root diskroots stageroots (spot_of v.slots v.staged 0) ≡ contract_root (kept_root diskroots stageroots) (spots_of v)
  unfolding spots_of contract_root joined tab
  seen-alone e =
      let f = kept_root diskroots stageroots in
      let first = spot_of v.slots v.staged 0 in
      let long = kept-long diskroots stageroots first (seen-lies 32 diskroots stageroots v 0 k.spots (omega (arith, e)) refl) in
      sym (ap (λ (n : ℕ). contract_root f (tab 0 n (spot_of v.slots v.staged))) e ∙ ap join (append-nil (f first)) ∙ roots.one (f first) long)

  -- of one sector no root is looked at
  pub seen_one : (z : ℕ) (disk stage : List ℕ) (at n : ℕ) {b : List ℕ} → v.count ≡ 1 → at / z < v.count
      → b ≡ sector z disk stage (spot_of v.slots v.staged (at / z))
      → proof b (at % z / 64) (at % z / 64 + n / 64) ≡ range_proof z (kept_root diskroots stageroots) disk stage (spots_of v) at n
  seen_one z disk stage at n {b} e lt q =
      let rs = joined (kept_root diskroots stageroots) (spots_of v) in
      let first : 0 ≡ at / z = omega (arith, lt) in
      sym (proofs.alone rs b (at % z / 64) (at % z / 64 + n / 64) (seen-roots refl ∙ ap (λ (m : ℕ). 32 * m) e))
      ∙ ap (λ (i : ℕ). proof_in rs i b (at % z / 64) (at % z / 64 + n / 64)) first
      ∙ seen-proof (kept_root diskroots stageroots) v refl z disk stage at n lt q

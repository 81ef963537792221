-- Where sectors are and their bytes, as code reads them. z is the sector size. Assumes nothing.
use Rattle.lists.proofs.Kit.{◌≡◌, refl, sym, ap, ◌∙◌, true, List, ℕ, ◌+◌, ◌-◌, ◌*◌, ◌≤◌, ◌<◌, arith, length, take, drop, get_or, leb-true, eq-eqb, ne_eqb}
use Rattle.lists.specs.Tests.{every}
use Rattle.lists.proofs.Laws.Pick.{yes, no}
use Rattle.lists.proofs.Laws.Entries.{any-default}
use Rattle.lists.proofs.Laws.Tab.{tab-at}
use Rattle.area.specs.Area.{part}
use Rattle.area.proofs.Laws.Parts.{part-is, length_part}
use Rattle.host.specs.Empty.{none}
use Rattle.machine_rules.specs.View.{sector, spot_of}
use Rattle.machine_rules.specs.declared.Spot.{Spot}
use Rattle.machine_rules.specs.declared.Spot.TheVariants.{OnDisk, InStage}
use Rattle.machine_sight.specs.Seen.{spots_of, holds, lies}
use Rattle.machine_sight.specs.declared.Seen.{Seen}

-- ---- where a position is

module _ (slots staged : List ℕ) (at n : ℕ) (long : length staged ≡ n) (h : at < n) where
  entry : get_or staged at none ≡ get_or staged at 0
  entry = any-default staged at none 0 (omega arith)

  pub spot-disk : get_or staged at 0 ≡ none → OnDisk (get_or slots at 0) ≡ spot_of slots staged at
  unfolding spot_of
  spot-disk e = yes _ _ _ (eq-eqb _ _ (entry ∙ e)) refl

  pub spot-stage : (get_or staged at 0 ≡ none → ⊥) → InStage (get_or staged at 0) ≡ spot_of slots staged at
  unfolding spot_of
  spot-stage e = no _ _ _ (ne_eqb _ _ (λ q. e (sym entry ∙ q))) (ap InStage (sym entry))

-- ---- the bytes of a sector

-- slot n of an area, as code cuts it
pub cut-is : (z : ℕ) (l : List ℕ) (n : ℕ) → n * z + z ≤ length l
    → (take (n * z + z - n * z) (drop (n * z) l) ≡ part l (n * z) z) × (length (take (n * z + z - n * z) (drop (n * z) l)) ≡ z)
cut-is z l n h = let e = part-is l (n * z) z (n * z + z) refl in (e, ap length e ∙ length_part l (n * z) z h)

-- the slot of a sector that lies within its area
module _ (z : ℕ) (disk stage : List ℕ) {x : Spot} (n : ℕ) where
  pub on-disk : x ≡ OnDisk n → lies z disk stage x ≡ true → holds z disk n ≡ true
  unfolding lies
  on-disk e h = ap (lies z disk stage) (sym e) ∙ h

  pub in-stage : x ≡ InStage n → lies z disk stage x ≡ true → holds z stage n ≡ true
  unfolding lies
  in-stage e h = ap (lies z disk stage) (sym e) ∙ h

  pub disk-sector : x ≡ OnDisk n → part disk (n * z) z ≡ sector z disk stage x
  unfolding sector
  disk-sector e = ap (sector z disk stage) (sym e)

  pub stage-sector : x ≡ InStage n → part stage (n * z) z ≡ sector z disk stage x
  unfolding sector
  stage-sector e = ap (sector z disk stage) (sym e)

-- the bytes of a sector that lies within its area
pub sector-long : (z : ℕ) (disk stage : List ℕ) (x : Spot) → lies z disk stage x ≡ true → length (sector z disk stage x) ≡ z
unfolding sector lies holds
sector-long z disk stage (OnDisk n) h = length_part disk (n * z) z (leb-true _ _ h)
sector-long z disk stage (InStage n) h = length_part stage (n * z) z (leb-true _ _ h)

-- ---- what is seen

-- a position that is seen lies within its area
pub seen-lies : (z : ℕ) (disk stage : List ℕ) (v : Seen) (i : ℕ) {x : Spot} → every (lies z disk stage) (spots_of v) ≡ true → i < v.count
    → x ≡ spot_of v.slots v.staged i → lies z disk stage x ≡ true
unfolding spots_of
seen-lies z disk stage v i l h e =
    ap (lies z disk stage) (e ∙ ap (spot_of v.slots v.staged) (let q : i ≡ 0 + i = omega arith in q))
    ∙ tab-at (lies z disk stage) (spot_of v.slots v.staged) 0 v.count i h l

-- the n bytes from `at` on of a sector
pub sector-span : (b : List ℕ) {s : List ℕ} (at n : ℕ) → s ≡ b → at + n ≤ length s
    → (take (at + n - at) (drop at s) ≡ part b at n) × (length (take (at + n - at) (drop at s)) ≡ n)
sector-span b {s} at n e h = (
  part-is s at n (at + n) refl ∙ ap (λ (l : List ℕ). part l at n) e,
  ap length (part-is s at n (at + n) refl) ∙ length_part s at n h,
)

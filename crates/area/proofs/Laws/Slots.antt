-- Slots of an area, z bytes each: where they begin and end, and which slot and offset a byte has. z is a variable: `omega` takes each product
-- with it, and what is divided by it, for an unknown, and a law here says how two of these stand to each other. Assumes nothing.
use Rattle.lists.proofs.Kit.{◌≡◌, sym, ap, ◌∙◌, List, ℕ, suc, ◌+◌, ◌*◌, ◌/◌, ◌%◌, ◌^◌, ◌≤◌, ◌<◌, suc-mul, mul-le-mul_right, mul_assoc, mod-lt}
use Rattle.lists.proofs.Kit.{div-add-mod', div-lt_iff_lt-mul, mul-div_cancel, arith, length, ltb, ltb-true, ltb-false}
use mathlib.Core.Logic.{◌⊎◌, inl, inr, ⊎_elim}
use Rattle.lists.proofs.Laws.Pick.{by}
use Rattle.area.specs.Area.{part, put}
use Rattle.area.specs.Slots.{Size}
use Rattle.area.proofs.Laws.Parts.{length_part}
use Rattle.area.proofs.Laws.Puts.{part-before, part-behind}

-- a slot below m ends where the m slots end, or before
pub slot-ends : (z n m : ℕ) → n < m → n * z + z ≤ m * z
slot-ends z n m h = omega (arith, mul-le-mul_right {m = suc n} {n = m} z h, suc-mul n z)

-- of two slots one ends where the other begins, or before
pub slots_apart : (z one two : ℕ) → (one ≡ two → ⊥) → (one * z + z ≤ two * z) ⊎ (two * z + z ≤ one * z)
slots_apart z one two ne =
    by (ltb one two)
    (λ e. inl (slot-ends z one two (ltb-true one two e)))
    (λ e. let le = ltb-false one two e in let lt : two < one = omega (arith, ne) in inr (slot-ends z two one lt))

-- slot n lies within an area that has m slots, or more
pub slot-within : (z n m : ℕ) (a : List ℕ) → n < m → m * z ≤ length a → n * z + z ≤ length a
slot-within z n m a lt e = omega (arith, slot-ends z n m lt)

pub slot-length : (l : List ℕ) (n m z : ℕ) → n < m → length l ≡ m * z → length (part l (n * z) z) ≡ z
slot-length l n m z lt e = length_part l (n * z) z (slot-within z n m l lt (omega (arith, e)))

-- bytes within slot k leave slot m
pub other-span : (z : ℕ) (a : List ℕ) (k m off : ℕ) (bs : List ℕ) → off + length bs ≤ z → (k ≡ m → ⊥) → part (put a (k * z + off) bs) (m * z) z
    ≡ part a (m * z) z
other-span z a k m off bs few ne =
    ⊎_elim (λ h. part-behind a (k * z + off) bs (m * z) z (omega (arith, h))) (λ h. part-before a (k * z + off) bs (m * z) z (omega (arith, h)))
    (slots_apart z k m ne)

pub other-slot : (z : ℕ) (a : List ℕ) (k m : ℕ) (bs : List ℕ) → length bs ≤ z → (k ≡ m → ⊥) → part (put a (k * z) bs) (m * z) z ≡ part a (m * z) z
other-slot z a k m bs few ne =
    let e : k * z ≡ k * z + 0 = omega arith in
    ap (λ (at : ℕ). part (put a at bs) (m * z) z) e ∙ other-span z a k m 0 bs (omega arith) ne

-- n bytes within slot `at / z`, one of m, end where the m slots end, or before
pub span-ends : (z at n m : ℕ) → at / z < m → at % z + n ≤ z → at + n ≤ m * z
span-ends z at n m below one = omega (arith, div-add-mod' at z, slot-ends z (at / z) m below)

module _ (z : ℕ) (s : Size z) where
  pub some : 0 < z
  some = omega (arith, s.least)

  -- slots that a byte can name end so near that no sum wraps
  pub slot-near : (n : ℕ) → n < 256 → n * z + z ≤ 1073741824
  slot-near n h = omega (arith, slot-ends z n 256 h, s.most)

  -- byte `at` lies at `at % z` of slot `at / z`, which is one of m where the byte is within them
  pub offset-less : (at : ℕ) → at % z < z
  offset-less at = mod-lt at some

  pub slot-below : (at m : ℕ) → at < m * z → at / z < m
  slot-below at m h = (div-lt_iff_lt-mul {k = z} {x = at} {y = m} some).1 h

  -- m slots are m
  pub slots-count : (m : ℕ) → m * z / z ≡ m
  slots-count m = mul-div_cancel m some

  -- the segments of m slots, so few that no sum wraps
  pub segments-all : (m : ℕ) → m * z ≡ m * (z / 64) * 64
  segments-all m =
      let one : z ≡ z / 64 * 64 = omega (arith, s.segments) in
      ap (λ (k : ℕ). m * k) one ∙ sym (mul_assoc m (z / 64) 64)

  pub segments-few : (m : ℕ) → m ≤ 256 → m * (z / 64) ≤ 16777216
  segments-few m h = omega (arith, segments-all m, mul-le-mul_right z h, s.most)

  -- segment `at / 64` of all is segment `at % z / 64` of slot `at / z`
  pub segment-of : (at : ℕ) → at % z / 64 + at / z * 2 ^ s.depth ≡ at / 64
  segment-of at =
      let depth : z / 64 ≡ 2 ^ s.depth = omega (arith, s.segments) in
      let slots : at / z * (z / 64) ≡ at / z * 2 ^ s.depth = ap (λ (n : ℕ). at / z * n) depth in
      omega (arith, div-add-mod' at z, segments-all (at / z), slots)

-- The bytes of entries, one behind the other: their lengths, one more entry, and pieces laid over an area one behind the other.
-- Assumes nothing.
use Rattle.lists.proofs.Kit.{◌≡◌, refl, sym, ap, ◌∙◌, List, [], ◌∷◌, ◌++◌, append_assoc, append-nil, ℕ, zero, suc, ◌+◌, ◌*◌, ◌≤◌, ◌<◌, arith, length, take}
use Rattle.lists.proofs.Kit.{get_or, length-append, take-suc, length-take-le}
use native.Mathlib.Numerals.{add-one}
use Rattle.std.proofs.Math.Seq.{take-length}
use Rattle.area.specs.Area.{put}
use Rattle.area.specs.Little.{le8}
use Rattle.area.proofs.Laws.Puts.{put-append}
use Rattle.area.proofs.Laws.Little.{length-bytes}
use Rattle.sia.specs.declared.Operand.{Operand}
use Rattle.sia.specs.declared.Instruction.{Instruction}
use Rattle.sia.specs.declared.Head.{Head}
use Rattle.sia.specs.Encode.{joined, operand_bytes, flag_byte, operands_in, instructions_in, instruction_bytes, encode}

module _ {A : Type 0} (f : A → List ℕ) where
  pub joined-append : (xs ys : List A) → joined f (xs ++ ys) ≡ joined f xs ++ joined f ys
  unfolding joined
  joined-append [] ys = refl
  joined-append (x ∷ xs) ys = ap (λ (l : List ℕ). f x ++ l) (joined-append xs ys) ∙ sym (append_assoc (f x) (joined f xs) (joined f ys))

  pub joined-more : (l : List A) (i : ℕ) (d : A) → i < length l → joined f (take (i + 1) l) ≡ joined f (take i l) ++ f (get_or l i d)
  unfolding joined
  joined-more l i d h =
      ap (λ (k : ℕ). joined f (take k l)) (add-one i)
      ∙ ap (joined f) (take-suc l i d h)
      ∙ joined-append (take i l) (get_or l i d ∷ [])
      ∙ ap (λ (bs : List ℕ). joined f (take i l) ++ bs) (append-nil (f (get_or l i d)))

  pub length_more : (l : List A) (i : ℕ) (d : A) → i < length l → length (joined f (take (i + 1) l)) ≡ length (joined f (take i l)) + length (f (get_or l i d))
  length_more l i d h = ap length (joined-more l i d h) ∙ length-append (joined f (take i l)) (f (get_or l i d))

  -- the first entries are no longer than all
  pub length-within : (l : List A) (i n : ℕ) → i ≤ n → length (joined f (take i l)) ≤ length (joined f (take n l))
  unfolding joined
  length-within l zero n h = omega arith
  length-within [] (suc i) zero h = omega arith
  length-within [] (suc i) (suc n) h = omega arith
  length-within (x ∷ xs) (suc i) zero h = absurd (omega arith)
  length-within (x ∷ xs) (suc i) (suc n) h =
      omega (arith, length-append (f x) (joined f (take i xs)), length-append (f x) (joined f (take n xs)), length-within xs i n (omega arith))

  -- and so with the next one
  pub room_left : (l : List A) (i : ℕ) (d : A) → i < length l → length (joined f (take i l)) + length (f (get_or l i d)) ≤ length (joined f l)
  room_left l i d h =
      omega (arith, length_more l i d h, length-within l (i + 1) (length l) (omega arith), ap (λ (xs : List A). length (joined f xs)) (take-length l))

  -- one entry more, laid behind those that stand
  pub lay-more : {e : List ℕ} (a : List ℕ) (at : ℕ) (l : List A) (i : ℕ) (d : A) (place : ℕ) → i < length l → place ≡ at + length (joined f (take i l))
      → e ≡ put a at (joined f (take i l)) → put e place (f (get_or l i d)) ≡ put a at (joined f (take (i + 1) l))
  lay-more a at l i d place h k e =
      ap (λ (z : List ℕ). put z place (f (get_or l i d))) e
      ∙ put-append a at (joined f (take i l)) (f (get_or l i d)) place k
      ∙ ap (put a at) (sym (joined-more l i d h))

-- four pieces in front of a rest
pub append-four : (w x y z rest : List ℕ) → (w ++ (x ++ (y ++ z))) ++ rest ≡ w ++ (x ++ (y ++ (z ++ rest)))
append-four w x y z rest = simp append_assoc

pub four-in-front : (w x y z rest : List ℕ) {bs r s t : List ℕ} → bs ≡ w ++ r → r ≡ x ++ s → s ≡ y ++ t → t ≡ z ++ rest → bs ≡ (w ++ (x ++ (y ++ z))) ++ rest
four-in-front w x y z rest p q r s =
    p
    ∙ ap (λ (l : List ℕ). w ++ l) (q ∙ ap (λ (l : List ℕ). x ++ l) (r ∙ ap (λ (l : List ℕ). y ++ l) s))
    ∙ sym (append-four w x y z rest)

-- a piece that is another
pub lay-same : {e ys : List ℕ} (a : List ℕ) (at : ℕ) (xs : List ℕ) → e ≡ put a at xs → xs ≡ ys → e ≡ put a at ys
lay-same a at xs p q = p ∙ ap (put a at) q

-- two pieces, and four, each laid behind the one before
pub lay-two : {a₁ a₂ : List ℕ} {m : ℕ} (a : List ℕ) (at : ℕ) (w x : List ℕ) (k : ℕ) → a₁ ≡ put a at w → a₂ ≡ put a₁ k x → length w ≡ m → k ≡ at + m
    → a₂ ≡ put a at (w ++ x)
lay-two a at w x k p q l e = q ∙ ap (λ (b : List ℕ). put b k x) p ∙ put-append a at w x k (e ∙ ap (λ (n : ℕ). at + n) (sym l))

pub lay-four : {a₁ a₂ a₃ a₄ : List ℕ} {m n o : ℕ} (a : List ℕ) (at : ℕ) (w x y z : List ℕ) (k₂ k₃ k₄ : ℕ)
    → a₁ ≡ put a at w → a₂ ≡ put a₁ k₂ x → a₃ ≡ put a₂ k₃ y → a₄ ≡ put a₃ k₄ z
    → length w ≡ m → length x ≡ n → length y ≡ o → k₂ ≡ at + m → k₃ ≡ k₂ + n → k₄ ≡ k₃ + o → a₄ ≡ put a at (w ++ (x ++ (y ++ z)))
lay-four {a₁} {a₂} a at w x y z k₂ k₃ k₄ p q r s l m n e f g =
    lay-two a at w _ k₂ p (lay-two a₁ k₂ x _ k₃ q (lay-two a₂ k₃ y z k₄ r s n g) m f) l e

-- ---- lengths

pub length-operand : (o : Operand) → length (operand_bytes o) ≡ 16
unfolding operand_bytes
length-operand o = omega (arith, length-append (le8 o.offset) (le8 o.len), length-bytes 8 o.offset, length-bytes 8 o.len)

pub length-operands : (os : List Operand) → length (joined operand_bytes os) ≡ 16 * length os
unfolding joined
length-operands [] = refl
length-operands (o ∷ os) = omega (arith, length-append (operand_bytes o) (joined operand_bytes os), length-operand o, length-operands os)

pub length-four : (w x y z : List ℕ) → length (w ++ (x ++ (y ++ z))) ≡ length w + (length x + (length y + length z))
length-four w x y z = omega (arith, length-append w (x ++ (y ++ z)), length-append x (y ++ z), length-append y z)

-- "48 + 25 for each instruction + 16 for each operand": an instruction's part
pub length-instruction : (x : Instruction) → length x.name ≡ 16 → length x.operands ≡ 4 → x.count ≤ 4 → length (instruction_bytes x) ≡ 25 + 16 * x.count
unfolding instruction_bytes
length-instruction x e f h =
    omega (
      arith,
      length-four x.name (le8 x.count) (joined operand_bytes (operands_in x)) (flag_byte x.proof ∷ []),
      length-bytes 8 x.count,
      length-operands (operands_in x),
      length-take-le x.count x.operands (omega arith),
    )

-- the rest of a head
pub length-head : (h : Head) → length h.contract ≡ 32 → length (encode h) ≡ 48 + length (joined instruction_bytes (instructions_in h))
unfolding encode
length-head h e =
    omega (
      arith,
      length-four h.contract (le8 h.count) (joined instruction_bytes (instructions_in h)) (le8 h.length),
      length-bytes 8 h.count,
      length-bytes 8 h.length,
    )

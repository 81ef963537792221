-- A head whose first 32 bytes are another id is read with the same number, and where it has no fault it is the same head of that contract.
-- Assumes nothing.
use Rattle.lists.proofs.Kit.{◌≡◌, refl, sym, ap, ap₂, ◌∙◌, true, false, List, [], ◌∷◌, ◌++◌, ℕ, arith, length, take, drop, take-append-drop, length-append}
use Rattle.lists.proofs.Kit.{length-take, length-drop, take-append_seam, drop-append_seam, ltb, ltb-false}
use Rattle.lists.proofs.Laws.Pick.{by, picks, skips}
use Rattle.sia.specs.Decode.{Reading, value, fault, after, bytes, limited, instructions, head, answer, told, decode}
use Rattle.sia.proofs.Laws.Honest.{read-of}
use Rattle.sia.specs.declared.Head.{Head}
use Rattle.sia.specs.declared.Instruction.{Instruction}
use Rattle.sia.specs.Decode.{Told}

-- the same head of another contract
abbrev pub head_of : List ℕ → Head → Head
head_of id d = record { contract = id; count = d.count; instructions = d.instructions; length = d.length }

unfoldable read_of : List ℕ → Reading Head → Reading Head
read_of id (value d rest) = value (head_of id d) rest
read_of id (fault n) = fault n

-- the sections behind the contract's: the declared length, the instructions before it, their count before those
abbrev length_in : List ℕ → ℕ → List Instruction → Reading ℕ → Reading Head
length_in id n is x = after x (λ d end. value (record { contract = id; count = n; instructions = is; length = d }) end)

abbrev instructions_in : List ℕ → ℕ → Reading (List Instruction) → Reading Head
instructions_in id n x = after x (λ is t. length_in id n is (limited 65536 t))

abbrev count_in : List ℕ → Reading ℕ → Reading Head
count_in id x = after x (λ n s. instructions_in id n (instructions n s))

module _ (id id' : List ℕ) where
  length-as : (n : ℕ) (is : List Instruction) (x : Reading ℕ) → length_in id' n is x ≡ read_of id' (length_in id n is x)
  unfolding after read_of
  length-as n is (value d end) = refl
  length-as n is (fault m) = refl

  instructions-as : (n : ℕ) (x : Reading (List Instruction)) → instructions_in id' n x ≡ read_of id' (instructions_in id n x)
  unfolding after read_of
  instructions-as n (value is t) = length-as n is (limited 65536 t)
  instructions-as n (fault m) = refl

  count-as : (x : Reading ℕ) → count_in id' x ≡ read_of id' (count_in id x)
  unfolding after read_of
  count-as (value n s) = instructions-as n (instructions n s)
  count-as (fault m) = refl

head-short : (bs : List ℕ) → ltb (length bs) 32 ≡ true → head bs ≡ fault 9
unfolding head bytes after
head-short bs e = rw (picks (ltb (length bs) 32) (fault 9) (value (take 32 bs) (drop 32 bs)) e)

head-long : (bs : List ℕ) → ltb (length bs) 32 ≡ false → head bs ≡ count_in (take 32 bs) (limited 32 (drop 32 bs))
unfolding head bytes after
head-long bs e = rw (skips (ltb (length bs) 32) (fault 9) (value (take 32 bs) (drop 32 bs)) e)

told_is : (t : Told) → t.number ≡ 0 → t ≡ told 0 t.head
told_is t e = ap (λ (n : ℕ). told n t.head) e

-- 32 bytes in front of others, in place of 32
module _ (id bs : List ℕ) (long : length id ≡ length (take 32 bs)) where
  abbrev other : List ℕ
  other = id ++ drop 32 bs

  as_long : length other ≡ length bs
  as_long = length-append id (drop 32 bs) ∙ omega (arith, length-take 32 bs, length-drop 32 bs)

  whole : ltb (length bs) 32 ≡ false → length id ≡ 32
  whole e = omega (arith, long, length-take 32 bs, ltb-false (length bs) 32 e)

  front : ltb (length bs) 32 ≡ false → take 32 other ≡ id
  front e = rw (whole e) at (take-append_seam id (drop 32 bs))

  back : ltb (length bs) 32 ≡ false → drop 32 other ≡ drop 32 bs
  back e = rw (whole e) at (drop-append_seam id (drop 32 bs))

  head_as_lem : head other ≡ read_of id (head bs)
  unfolding read_of
  head_as_lem =
      by (ltb (length bs) 32)
      (λ e. head-short other (ap (λ (n : ℕ). ltb n 32) as_long ∙ e) ∙ sym (ap (read_of id) (head-short bs e)))
      (λ e. head-long other (ap (λ (n : ℕ). ltb n 32) as_long ∙ e)
      ∙ ap₂ (λ (i l : List ℕ). count_in i (limited 32 l)) (front e) (back e)
      ∙ count-as (take 32 bs) id (limited 32 (drop 32 bs)) ∙ sym (ap (read_of id) (head-long bs e)))

  pub number-as : (decode other).number ≡ (decode bs).number
  unfolding decode answer read_of
  number-as = ap (λ (x : Reading Head). (answer x).number) head_as_lem ∙ go (head bs) where
    go : (x : Reading Head) → (answer (read_of id x)).number ≡ (answer x).number
    go (value d []) = refl
    go (value d (b ∷ rest)) = refl
    go (fault n) = refl

  pub decode-as : (decode bs).number ≡ 0 → (decode other).head ≡ head_of id (decode bs).head
  unfolding decode answer read_of
  decode-as e =
      let was : head bs ≡ value (decode bs).head [] = read-of bs (decode bs).head (told_is (decode bs) e) in
      ap (λ (x : Reading Head). (answer x).head) (head_as_lem ∙ ap (read_of id) was)

-- the contract's id is the first section
pub contract-is : (bs : List ℕ) → (decode bs).number ≡ 0 → (decode bs).head.contract ≡ take 32 bs
contract-is bs e =
    ap (λ (l : List ℕ). (decode l).head.contract) (sym (take-append-drop 32 bs))
    ∙ ap (λ (d : Head). d.contract) (decode-as (take 32 bs) bs refl e)

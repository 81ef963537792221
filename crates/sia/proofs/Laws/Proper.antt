-- What was read is proper and within limits: array lengths, numbers of 64 bits, counts. Assumes nothing.
use Rattle.lists.proofs.Kit.{◌≡◌, refl, sym, ◌∙◌, subst, true, List, [], ◌∷◌, ◌++◌, ℕ, zero, suc, ◌-◌, ◌^◌, ◌≤◌, ◌<◌, pow-succ', arith, length, take}
use Rattle.lists.proofs.Kit.{replicate, length-append, length-replicate, take_at, le-leb}
use Rattle.lists.specs.Tests.{every}
use Rattle.lists.proofs.Laws.Pick.{both-join}
use Rattle.area.specs.Little.{value_of, le8, Bytes}
use Rattle.sia.specs.declared.Operand.{Operand}
use Rattle.sia.specs.declared.Instruction.{Instruction}
use Rattle.sia.specs.declared.Head.{Head}
use Rattle.sia.specs.Empty.{no_operand, no_instruction, filled}
use Rattle.sia.specs.Encode.{operand_bytes, instruction_bytes, few_operands, within}
use Rattle.sia.specs.Decode.{Reading, value, bytes, number, limited, flag, several, entries, operand, instruction, head}
use Rattle.sia.specs.Trim.{Each, ProperOperand, ProperInstruction, Proper}
use Rattle.sia.proofs.Laws.Inverse.{split, same-value, as_read, limited-within}
use Rattle.sia.proofs.Laws.Limits.{is_within}
use Rattle.sia.proofs.Laws.There.{Fit}
use Rattle.sia.proofs.Laws.Back.{Back, rest-bytes, front_bytes, bytes_back, number-back, operand-back, several-back, instruction-back, begins}

-- ---- lists

each_append : {A : Type 0} (P : A → Type 0) (xs ys : List A) → Each P xs → Each P ys → Each P (xs ++ ys)
unfolding Each
each_append P [] ys h k = k
each_append P (x ∷ xs) ys h k = (h.0, each_append P xs ys h.1 k)

each-replicate : {A : Type 0} (P : A → Type 0) (n : ℕ) (x : A) → P x → Each P (replicate n x)
unfolding Each
each-replicate P zero x h = tt
each-replicate P (suc n) x h = (h, each-replicate P n x h)

each-proper : (xs : List Instruction) → Each Fit xs → Each ProperInstruction xs
unfolding Each
each-proper [] h = tt
each-proper (x ∷ xs) h = (h.0.0, each-proper xs h.1)

each-few : (xs : List Instruction) → Each Fit xs → every few_operands xs ≡ true
unfolding Each every
each-few [] h = refl
each-few (x ∷ xs) h = both-join _ _ (le-leb _ _ h.0.1) (each-few xs h.1)

module _ {A : Type 0} (room : ℕ) (none : A) (xs : List A) where
  filled-length : length xs ≤ room → length (filled room none xs) ≡ room
  unfolding filled
  filled-length h = length-append xs _ ∙ omega (arith, length-replicate (room - length xs) none)

  filled-each : (P : A → Type 0) → Each P xs → P none → Each P (filled room none xs)
  unfolding filled
  filled-each P h k = each_append P xs _ h (each-replicate P (room - length xs) none k)

  filled-take : (n : ℕ) → length xs ≡ n → take n (filled room none xs) ≡ xs
  unfolding filled
  filled-take n e = take_at xs _ n e

module _ {A : Type 0} (one : List ℕ → Reading A) (f : A → List ℕ) (back : Back one f) (P : A → Type 0)
    (holds : (bs : List ℕ) → Bytes bs → (x : A) (rest : List ℕ) → one bs ≡ value x rest → P x) where
  several-each : (n : ℕ) (bs : List ℕ) → Bytes bs → (xs : List A) (rest : List ℕ) → several one n bs ≡ value xs rest → Each P xs
  unfolding several Each
  several-each zero bs h xs rest e = subst (Each P) (same-value e).0 tt
  several-each (suc n) bs h xs rest e =
      let s = split (one bs) _ e in
      let hs = rest-bytes (f s.x) s.rest h (back bs h s.x s.rest s.first) in
      let t = split (several one n s.rest) _ s.second in
      subst (Each P) (same-value t.second).0
      (holds bs h s.x s.rest s.first, several-each n s.rest hs t.x t.rest t.first)

  -- n entries, and empty ones behind them
  record Entries (room : ℕ) (none : A) (n : ℕ) (ys : List A) : Type 0 where
    long : length ys ≡ room
    all : Each P ys
    within : Each P (take n ys)

  entries-each : (room : ℕ) (none : A) (n : ℕ) (bs : List ℕ) → Bytes bs → (ys : List A) (rest : List ℕ) → n ≤ room → P none
      → entries one room none n bs ≡ value ys rest → Entries room none n ys
  unfolding entries
  entries-each room none n bs h ys rest k z e =
      let s = split (several one n bs) _ e in
      let l = (several-back one f back n bs h s.x s.rest s.first).1 in
      let own = several-each n bs h s.x s.rest s.first in
      subst (Entries room none n) (same-value s.second).0 (record {
        long = filled-length room none s.x (omega arith);
        all = filled-each room none s.x P own z;
        within = subst (Each P) (sym (filled-take room none s.x n l)) own;
      })

-- ---- sections

value-below : (xs : List ℕ) → Bytes xs → value_of xs < 256 ^ length xs
unfolding value_of Bytes
value-below [] b = omega arith
value-below (x ∷ xs) b =
    let h : x < 256 = b 0 in
    let k : value_of xs < 256 ^ length xs = value-below xs (λ i. b (suc i)) in
    rw pow-succ' (omega arith)

number-below : (bs : List ℕ) → Bytes bs → (n : ℕ) (rest : List ℕ) → number bs ≡ value n rest → n < 2 ^ 64
unfolding number
number-below bs h n rest e =
    let s = split (bytes 8 bs) _ e in
    let b = bytes_back 8 bs s.first in
    let own = value-below s.x (front_bytes s.x s.rest (subst Bytes b.0 h)) in
    let below : value_of s.x < 256 ^ 8 = subst (λ (k : ℕ). value_of s.x < 256 ^ k) b.1 own in
    subst (λ (m : ℕ). m < 2 ^ 64) (same-value s.second).0 below

operand-proper : (bs : List ℕ) → Bytes bs → (o : Operand) (rest : List ℕ) → operand bs ≡ value o rest → ProperOperand o
unfolding operand
operand-proper bs h o rest e =
    let s = split (number bs) _ e in
    let hs = rest-bytes (le8 s.x) s.rest h (number-back bs h s.x s.rest s.first) in
    let t = split (number s.rest) _ s.second in
    as_read ProperOperand (record { offset = s.x; len = t.x }) t.rest t.second
    (record { offset = number-below bs h s.x s.rest s.first; len = number-below s.rest hs t.x t.rest t.first })

no-operand : ProperOperand no_operand
no-operand = record { offset = omega arith; len = omega arith }

no-instruction : Fit no_instruction
no-instruction = (record { name = refl; operands = refl; each = each-replicate ProperOperand 4 no_operand no-operand }, omega arith)

instruction-fit : (bs : List ℕ) → Bytes bs → (x : Instruction) (rest : List ℕ) → instruction bs ≡ value x rest → Fit x
unfolding instruction
instruction-fit bs h x rest e =
    let l = begins operand operand_bytes operand-back 4 no_operand 16 bs h _ x rest e in
    let list = entries-each operand operand_bytes operand-back ProperOperand operand-proper 4 no_operand l.count l.behind-count l.count-bytes l.list
    l.rest l.few no-operand l.entered in
    let v = split (flag l.rest) _ l.left in
    as_read Fit (record { name = l.name; count = l.count; operands = l.list; proof = v.x }) v.rest v.second
    (record { name = l.long; operands = list.long; each = list.all }, l.few)

-- a head that was read
pub record Good (h : Head) : Type 0 where
  pub proper : Proper h
  pub limits : within h ≡ true

pub head-good : (bs : List ℕ) → Bytes bs → (h : Head) (rest : List ℕ) → head bs ≡ value h rest → Good h
unfolding head
head-good bs h x rest e =
    let l = begins instruction instruction_bytes instruction-back 32 no_instruction 32 bs h _ x rest e in
    let list = entries-each instruction instruction_bytes instruction-back Fit instruction-fit 32 no_instruction l.count l.behind-count l.count-bytes
    l.list l.rest l.few no-instruction l.entered in
    let v = split (limited 65536 l.rest) _ l.left in
    let read : Head = record { contract = l.name; count = l.count; instructions = l.list; length = v.x } in
    as_read Good read v.rest v.second (record {
      proper = record { contract = l.long; instructions = list.long; each = each-proper l.list list.all };
      limits = is_within read (record {
        count = l.few;
        declared = limited-within 65536 l.rest {n = v.x} {end = v.rest} v.first;
        few = each-few (take l.count l.list) list.within;
      });
    })

-- Reading a head: "Reading goes left to right and stops at the first fault: bytes missing, a flag above 1 or bytes left over give
-- 9; a count or the declared length above its limit gives 10." Assumes nothing.
use Rattle.std.specs.Prelude.{Bool, List, [], ◌∷◌, ℕ, zero, suc, length, take, drop, ltb, eqb}
use Rattle.lists.specs.Pick.{pick}
use Rattle.area.specs.Little.{value_of}
use Rattle.sia.specs.Empty.{no_operand, no_instruction, no_head, filled}
use Rattle.sia.specs.declared.Operand.{Operand}
use Rattle.sia.specs.declared.Instruction.{Instruction}
use Rattle.sia.specs.declared.Head.{Head}

-- what reading a section comes to: its value and the bytes behind it, or the number of a fault
pub data Reading (A : Type 0) : Type 0 where
  value : A → List ℕ → Reading A
  fault : ℕ → Reading A

-- the next section, read from the bytes behind this one; a fault stops
unfoldable pub after : {A B : Type 0} → Reading A → (A → List ℕ → Reading B) → Reading B
after (value x rest) next = next x rest
after (fault n) next = fault n

-- n bytes: "bytes missing .. give 9"
unfoldable pub bytes : ℕ → List ℕ → Reading (List ℕ)
bytes n bs = pick (ltb (length bs) n) (fault 9) (value (take n bs) (drop n bs))

-- "Numbers are 8 bytes, little-endian."
unfoldable pub number : List ℕ → Reading ℕ
number bs = after (bytes 8 bs) (λ b rest. value (value_of b) rest)

-- "a count or the declared length above its limit gives 10"
unfoldable pub limited : ℕ → List ℕ → Reading ℕ
limited limit bs = after (number bs) (λ n rest. pick (ltb limit n) (fault 10) (value n rest))

-- "a flag above 1 .. give 9"
unfoldable pub flag : List ℕ → Reading Bool
flag bs = after (bytes 1 bs) (λ b rest. pick (ltb 1 (value_of b)) (fault 9) (value (eqb (value_of b) 1) rest))

-- n entries of a list, one behind the other
unfoldable pub several : {A : Type 0} → (List ℕ → Reading A) → ℕ → List ℕ → Reading (List A)
several one zero bs = value [] bs
several one (suc n) bs = after (one bs) (λ x rest. after (several one n rest) (λ xs end. value (x ∷ xs) end))

-- an array's entries: "Entries past a count are no part of a head and are read as 0."
unfoldable pub entries : {A : Type 0} → (List ℕ → Reading A) → ℕ → A → ℕ → List ℕ → Reading (List A)
entries one room none n bs = after (several one n bs) (λ xs rest. value (filled room none xs) rest)

-- "operands (offset, length)"
unfoldable pub operand : List ℕ → Reading Operand
operand bs = after (number bs) (λ o rest. after (number rest) (λ n end. value (record { offset = o; len = n }) end))

-- n of the 4 operands that an instruction has room for
abbrev pub operands : ℕ → List ℕ → Reading (List Operand)
operands n bs = entries operand 4 no_operand n bs

-- "per instruction a 16-byte name, operand count, operands (offset, length), proof flag"
unfoldable pub instruction : List ℕ → Reading Instruction
instruction bs =
    after (bytes 16 bs) (λ name r. after (limited 4 r) (λ n s. after (operands n s) (λ os t. after (flag t) (λ p end.
    value (record { name = name; count = n; operands = os; proof = p }) end))))

-- n of the 32 instructions that a head has room for
abbrev pub instructions : ℕ → List ℕ → Reading (List Instruction)
instructions n bs = entries instruction 32 no_instruction n bs

-- "contract id (32 bytes); instruction count; per instruction ..; declared data length"
unfoldable pub head : List ℕ → Reading Head
head bs =
    after (bytes 32 bs) (λ id r. after (limited 32 r) (λ n s. after (instructions n s) (λ is t. after (limited 65536 t) (λ d end.
    value (record { contract = id; count = n; instructions = is; length = d }) end))))

-- the reader's answer: 0, 9 or 10, and the head, which is empty on a fault
pub record Told : Type 0 where
  pub number : ℕ
  pub head : Head

abbrev pub told : ℕ → Head → Told
told n h = record { number = n; head = h }

-- the number and the head; the empty head on a fault, and "bytes left over give 9"
unfoldable pub answer : Reading Head → Told
answer (value h []) = told 0 h
answer (value h (b ∷ bs)) = told 9 no_head
answer (fault n) = told n no_head

-- what the reader answers for bytes
unfoldable pub decode : List ℕ → Told
decode bs = answer (head bs)

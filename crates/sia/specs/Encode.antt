-- The bytes of a head: "Sections come in this order, each list after its count: contract id (32 bytes); instruction count; per
-- instruction a 16-byte name, operand count, operands (offset, length), proof flag (one byte, 0 or 1); declared data length."
-- Assumes nothing.
use Rattle.std.specs.Prelude.{Bool, true, false, not, List, [], ◌∷◌, ◌++◌, ℕ, length, take, leb, ltb}
use Rattle.lists.specs.Pick.{pick, both}
use Rattle.lists.specs.Tests.{every}
use Rattle.area.specs.Area.{put}
use Rattle.area.specs.Little.{le8}
use Rattle.sia.specs.declared.Operand.{Operand}
use Rattle.sia.specs.declared.Instruction.{Instruction}
use Rattle.sia.specs.declared.Head.{Head}

-- the bytes of each, one behind the other
unfoldable pub joined : {A : Type 0} → (A → List ℕ) → List A → List ℕ
joined f [] = []
joined f (x ∷ xs) = f x ++ joined f xs

-- "operands (offset, length)"
unfoldable pub operand_bytes : Operand → List ℕ
operand_bytes o = le8 o.offset ++ le8 o.len

-- "proof flag (one byte, 0 or 1)"
abbrev pub flag_byte : Bool → ℕ
flag_byte false = 0
flag_byte true = 1

-- the entries within a count; "Entries past a count are no part of a head"
abbrev pub operands_in : Instruction → List Operand
operands_in x = take x.count x.operands

abbrev pub instructions_in : Head → List Instruction
instructions_in h = take h.count h.instructions

-- "per instruction a 16-byte name, operand count, operands (offset, length), proof flag"
unfoldable pub instruction_bytes : Instruction → List ℕ
instruction_bytes x = x.name ++ (le8 x.count ++ (joined operand_bytes (operands_in x) ++ (flag_byte x.proof ∷ [])))

-- the four sections of a head
unfoldable pub encode : Head → List ℕ
encode h = h.contract ++ (le8 h.count ++ (joined instruction_bytes (instructions_in h) ++ le8 h.length))

-- ---- "At most 32 instructions, 4 operands each, 65,536 bytes declared."

abbrev pub few_operands : Instruction → Bool
few_operands x = leb x.count 4

-- the three limits; the operands of instructions past the count do not matter
unfoldable pub within : Head → Bool
within h = both (leb h.count 32) (both (leb h.length 65536) (every few_operands (instructions_in h)))

-- ---- the writer

-- the writer's answer: 0, 2 or 10, and the length of what it wrote
pub record Written : Type 0 where
  pub number : ℕ
  pub length : ℕ

-- what a call of the writer leaves: its answer, and the area
pub record Left : Type 0 where
  pub answer : Written
  pub area : List ℕ

abbrev pub left : Written → List ℕ → Left
left w a = record { answer = w; area = a }

-- "The writer makes these bytes from any head within limits, else answers 10; after that, 2 for an area that is too short. Bytes
-- behind the head stay."
unfoldable pub write : Head → List ℕ → Left
write h area =
    pick (not (within h)) (left (record { number = 10; length = 0 }) area)
    (pick (ltb (length area) (length (encode h))) (left (record { number = 2; length = 0 }) area)
    (left (record { number = 0; length = length (encode h) }) (put area 0 (encode h))))

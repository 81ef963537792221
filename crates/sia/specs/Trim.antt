-- Heads as they are read back, and what holds of every head that code holds. Assumes nothing.
use Rattle.std.specs.Prelude.{◌≡◌, List, [], ◌∷◌, map, ℕ, ◌+◌, ◌^◌, ◌<◌, length}
use Rattle.sia.specs.declared.Operand.{Operand}
use Rattle.sia.specs.declared.Instruction.{Instruction}
use Rattle.sia.specs.declared.Head.{Head}
use Rattle.sia.specs.Empty.{no_operand, no_instruction, filled}
use Rattle.sia.specs.Encode.{operands_in, instructions_in}

-- ---- "Entries past a count are no part of a head and are read as 0."

unfoldable pub trimmed_instruction : Instruction → Instruction
trimmed_instruction x = record { name = x.name; count = x.count; operands = filled 4 no_operand (operands_in x); proof = x.proof }

unfoldable pub trimmed : Head → Head
trimmed h = record {
  contract = h.contract;
  count = h.count;
  instructions = filled 32 no_instruction (map trimmed_instruction (instructions_in h));
  length = h.length;
}

-- ---- array lengths, and numbers of 64 bits

-- P holds of every entry
unfoldable pub Each : {A : Type 0} → (A → Type 0) → List A → Type 0
Each P [] = Unit
Each P (x ∷ xs) = P x × Each P xs

pub record ProperOperand (o : Operand) : Type 0 where
  pub offset : o.offset < 2 ^ 64
  pub len : o.len < 2 ^ 64

pub record ProperInstruction (x : Instruction) : Type 0 where
  pub name : length x.name ≡ 16
  pub operands : length x.operands ≡ 4
  pub each : Each ProperOperand x.operands

pub record Proper (h : Head) : Type 0 where
  pub contract : length h.contract ≡ 32
  pub instructions : length h.instructions ≡ 32
  pub each : Each ProperInstruction h.instructions

-- the number of operands of instructions
unfoldable pub operand_count : List Instruction → ℕ
operand_count [] = 0
operand_count (x ∷ xs) = x.count + operand_count xs

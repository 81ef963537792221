-- The head of the bench line "(P) Truncate(4,096) alone, 8 data bytes: head 89 bytes". Assumes nothing.
use Rattle.std.specs.Prelude.{false, List, [], ◌∷◌, ℕ}
use Rattle.sia.specs.declared.Op.TheVariants.{Truncate}
use Rattle.sia.specs.declared.Instruction.{Instruction}
use Rattle.sia.specs.declared.Head.{Head}
use Rattle.sia.specs.Names.{name_of}
use Rattle.sia.specs.Empty.{no_operand, no_instruction, filled}

-- Truncate, its new size in the 8 bytes of data
unfoldable pub truncate : Instruction
truncate = record { name = name_of Truncate; count = 1; operands = filled 4 no_operand (record { offset = 0; len = 8 } ∷ []); proof = false }

unfoldable pub truncate_alone : List ℕ → Head
truncate_alone id = record { contract = id; count = 1; instructions = filled 32 no_instruction (truncate ∷ []); length = 8 }

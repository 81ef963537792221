-- Entries that hold nothing: all zeros. Assumes nothing.
use Rattle.std.specs.Prelude.{false, List, ◌++◌, ℕ, ◌-◌, length, replicate}
use Rattle.area.specs.Area.{zeros}
use Rattle.sia.specs.declared.Operand.{Operand}
use Rattle.sia.specs.declared.Instruction.{Instruction}
use Rattle.sia.specs.declared.Head.{Head}

abbrev pub no_operand : Operand
no_operand = record { offset = 0; len = 0 }

abbrev pub no_instruction : Instruction
no_instruction = record { name = zeros 16; count = 0; operands = replicate 4 no_operand; proof = false }

abbrev pub no_head : Head
no_head = record { contract = zeros 32; count = 0; instructions = replicate 32 no_instruction; length = 0 }

-- n entries: those given, and empty ones behind them
unfoldable pub filled : {A : Type 0} → ℕ → A → List A → List A
filled n none xs = xs ++ replicate (n - length xs) none

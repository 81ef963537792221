-- Needs and inputs of an instruction. Assumes nothing.
use Rattle.std.specs.Prelude.{Bool, true, not, List, [], ◌∷◌, ℕ, ◌+◌, ◌-◌, max, length, take, drop, get_or, leb, ltb, eqb}
use Rattle.lists.specs.Pick.{pick, both, either}
use Rattle.lists.specs.Tests.{some, each}
use Rattle.area.specs.Area.{part, zeros}
use Rattle.sia.specs.Names.{op_of}
use Rattle.sia.specs.Number.{Decoded, number}
use Rattle.sia.specs.Encode.{operands_in}
use Rattle.machine_rules.specs.Kinds.{known, operands_of}
use Rattle.machine_rules.specs.declared.Args.{Args}
use Rattle.sia.specs.declared.Operand.{Operand}
use Rattle.sia.specs.declared.Instruction.{Instruction}
use Rattle.sia.specs.declared.Op.{Op}
use Rattle.sia.specs.declared.Op.TheVariants.{Read, ReadSector, Write, Copy, Swap, Truncate, Unknown}

-- ---- 21, 22 and the need

-- 21: "unknown name, or operand count wrong"
unfoldable pub ill_formed : Instruction → Bool
ill_formed i = either (not (known (op_of i.name))) (not (eqb i.count (operands_of (op_of i.name))))

-- 22: "offset plus length of an operand above the declared length"
unfoldable pub past_end : ℕ → Instruction → Bool
past_end declared i = some (λ o. ltb declared (o.offset + o.len)) (operands_in i)

-- "the largest offset plus length among operands of nonzero length, 0 if none"
unfoldable pub largest : List Operand → ℕ
largest [] = 0
largest (o ∷ os) = max (pick (eqb o.len 0) 0 (o.offset + o.len)) (largest os)

-- "Need is 0 if 21 or 22 below applies; otherwise the largest .."
unfoldable pub need : ℕ → Instruction → ℕ
need declared i = pick (ill_formed i) 0 (pick (past_end declared i) 0 (largest (operands_in i)))

-- ---- the inputs

-- "Each input is the middle part of the input area that its operand names."
unfoldable pub inputs_of : Instruction → List ℕ → List (List ℕ)
inputs_of i area = each (λ o. part area o.offset o.len) (operands_in i)

abbrev pub nth : List (List ℕ) → ℕ → List ℕ
nth l n = get_or l n []

-- the number, where the decoder tells one
unfoldable pub is_told : Decoded → Bool
is_told d = eqb d.number 0

unfoldable pub told : Decoded → ℕ
told d = d.value

-- ---- 23

unfoldable pub is_number : List ℕ → Bool
is_number b = is_told (number b)

-- an id or a root
unfoldable pub is_key : List ℕ → Bool
is_key b = eqb (length b) 32

-- not "shorter than 8 or whose leading count is not the rest's length"
unfoldable pub is_data : List ℕ → Bool
is_data b = both (leb 8 (length b)) (eqb (told (number (take 8 b))) (length b - 8))

-- not "a number not 8 bytes, an id or root not 32; Write data shorter than 8 or .."
unfoldable pub well_formed : Op → List (List ℕ) → Bool
well_formed Read l = both (is_key (nth l 0)) (both (is_number (nth l 1)) (is_number (nth l 2)))
well_formed ReadSector l = both (is_key (nth l 0)) (both (is_number (nth l 1)) (is_number (nth l 2)))
well_formed Write l = both (is_number (nth l 0)) (is_data (nth l 1))
well_formed Copy l = both (is_number (nth l 0)) (both (is_number (nth l 1)) (is_number (nth l 2)))
well_formed Swap l = both (is_number (nth l 0)) (both (is_number (nth l 1)) (is_number (nth l 2)))
well_formed Truncate l = is_number (nth l 0)
well_formed Unknown l = true

-- ---- what the inputs say

-- (contract or root, offset, length)
unfoldable pub read_args : List (List ℕ) → Args
read_args l = record { key = nth l 0; first = told (number (nth l 1)); second = 0; len = told (number (nth l 2)) }

-- (destination or offset 1, source or offset 2, size)
unfoldable pub span_args : List (List ℕ) → Args
span_args l = record { key = zeros 32; first = told (number (nth l 0)); second = told (number (nth l 1)); len = told (number (nth l 2)) }

unfoldable pub args_of : Op → List (List ℕ) → Args
args_of Read l = read_args l
args_of ReadSector l = read_args l
args_of Write l = record { key = zeros 32; first = told (number (nth l 0)); second = 0; len = length (nth l 1) - 8 }
args_of Copy l = span_args l
args_of Swap l = span_args l
args_of Truncate l = record { key = zeros 32; first = told (number (nth l 0)); second = 0; len = 0 }
args_of Unknown l = record { key = zeros 32; first = 0; second = 0; len = 0 }

-- Write's data, without its count
unfoldable pub data_in : List (List ℕ) → List ℕ
data_in l = drop 8 (nth l 1)

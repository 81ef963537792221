-- What the decoder tells of an instruction's inputs. Assumes nothing.
use Rattle.std.specs.Prelude.{Option, Some, None, Bool, true, false, List, [], ◌∷◌, ℕ, ◌+◌, ◌-◌, length, get_or}
use Rattle.lists.specs.Pick.{pick}
use Rattle.area.specs.Area.{part, zeros}
use Rattle.sia.specs.Empty.{no_operand}
use Rattle.sia.specs.Number.{Decoded, decoded}
use Rattle.machine_rules.specs.Inputs.{is_key, is_data, well_formed, args_of}
use Rattle.sia.specs.declared.Operand.{Operand}
use Rattle.sia.specs.declared.Instruction.{Instruction}
use Rattle.sia.specs.declared.Op.{Op}
use Rattle.sia.specs.declared.Op.TheVariants.{Read, ReadSector, Write, Copy, Swap, Truncate, Unknown}
use Rattle.machine_rules.specs.declared.Args.{Args}
use Rattle.machine_inputs.specs.declared.Given as Code

-- the input that operand k names
abbrev pub input_at : List ℕ → List Operand → ℕ → List ℕ
input_at area os k = part area (get_or os k no_operand).offset (get_or os k no_operand).len

-- the inputs of one, two and three operands
unfoldable pub one : List ℕ → List Operand → List (List ℕ)
one area os = input_at area os 0 ∷ []

unfoldable pub two : List ℕ → List Operand → List (List ℕ)
two area os = input_at area os 0 ∷ input_at area os 1 ∷ []

unfoldable pub three : List ℕ → List Operand → List (List ℕ)
three area os = input_at area os 0 ∷ input_at area os 1 ∷ input_at area os 2 ∷ []

-- ---- the decoders

-- what 32 bytes are: an id or a root. Of other lengths nothing is told
pub record Key : Type 0 where
  pub told : Bool
  pub bytes : List ℕ

abbrev pub key_told : Option (List ℕ) → Key
key_told (Some b) = record { told = true; bytes = b }
key_told None = record { told = false; bytes = zeros 32 }

unfoldable pub key_of : List ℕ → Key
key_of b = pick (is_key b) (record { told = true; bytes = b }) (record { told = false; bytes = zeros 32 })

-- the length of Write's data, "count excluded", or 23
unfoldable pub data_of : List ℕ → Decoded
data_of b = pick (is_data b) (decoded 0 (length b - 8)) (decoded 23 0)

-- ---- all inputs

-- 23: no arguments
abbrev pub no_args : Args
no_args = record { key = zeros 32; first = 0; second = 0; len = 0 }

-- the arguments, and where Write's data begin in the input area, 0 for all others; or nothing told, which is 23
pub record Given : Type 0 where
  pub told : Bool
  pub args : Args
  pub from : ℕ

unfoldable pub malformed : Given
malformed = record { told = false; args = no_args; from = 0 }

abbrev pub given_told : Option Code.Given → Given
given_told (Some g) = record { told = true; args = g.args; from = g.from }
given_told None = malformed

-- the arguments, or 23
unfoldable pub given : Op → List (List ℕ) → ℕ → Given
given op l from = pick (well_formed op l) (record { told = true; args = args_of op l; from = from }) malformed

-- where the data begin in the input area: behind their count
abbrev pub data_from : List Operand → ℕ
data_from os = (get_or os 1 no_operand).offset + 8

-- so for Write
unfoldable pub from_of : Op → Instruction → ℕ
from_of Read i = 0
from_of ReadSector i = 0
from_of Write i = data_from i.operands
from_of Copy i = 0
from_of Swap i = 0
from_of Truncate i = 0
from_of Unknown i = 0

-- "Numbers are 8 bytes, little-endian." Assumes nothing.
use Rattle.std.specs.Prelude.{Option, None, Some, List, ℕ, length, eqb}
use Rattle.lists.specs.Pick.{pick}
use Rattle.area.specs.Little.{value_of}

-- what a decoder answers: document 01's number, and the value, which is 0 on a refusal
pub record Decoded : Type 0 where
  pub number : ℕ
  pub value : ℕ

abbrev pub decoded : ℕ → ℕ → Decoded
decoded n v = record { number = n; value = v }

-- 0 and the number; 23, "a number not 8 bytes", where there is none
abbrev pub number_given : Option ℕ → Decoded
number_given (Some n) = decoded 0 n
number_given None = decoded 23 0

-- the number that bytes are, or 23
unfoldable pub number : List ℕ → Decoded
number bs = pick (eqb (length bs) 8) (decoded 0 (value_of bs)) (decoded 23 0)

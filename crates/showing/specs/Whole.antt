-- Where the parts of a record stand: "number (0 if it succeeded), cost, new size (8 each), new root (32), proof count and hashes, output count
-- and bytes". Assumes nothing.
use Rattle.std.specs.Prelude.{◌≡◌, List, ℕ, ◌+◌, ◌-◌, ◌*◌, ◌/◌, ◌≤◌, length, ltb, Result, Ok, Err}
use Rattle.lists.specs.Pick.{pick}
use Rattle.area.specs.Area.{part}
use Rattle.area.specs.Little.{value_of}
use Rattle.showing.specs.declared.parts.Parts.{Parts}
use Rattle.showing.specs.declared.parts.Fault.{Fault}
use Rattle.showing.specs.declared.parts.Missing.{Missing}
use Rattle.showing.specs.declared.parts.Missing.TheVariants.{Ahead, Hashes, Count, Output}

-- what is told of a record: where its parts stand, or a fault, which is not 0, and where what it lacks begins
pub record Told : Type 0 where
  pub fault : ℕ
  pub from : ℕ
  pub hashes : ℕ
  pub middle : ℕ
  pub output : ℕ
  pub end : ℕ

-- the number in the 8 bytes from `at` on
abbrev pub number_at : List ℕ → ℕ → ℕ
number_at b at = value_of (part b at 8)

-- what is missing, and where that begins
unfoldable pub lacking : ℕ → ℕ → Told
lacking fault from = record { fault = fault; from = from; hashes = 0; middle = 0; output = 0; end = 0 }

-- the record that begins at `at`, whose hashes end at `middle`, with so many bytes of output
unfoldable pub standing : ℕ → ℕ → ℕ → Told
standing at middle many =
    record { fault = 0; from = at; hashes = at + 64; middle = middle; output = middle + 8; end = middle + 8 + many }

-- what stands from `middle` on: the output's count, then its bytes
unfoldable pub output_at : List ℕ → ℕ → ℕ → Told
output_at b at middle =
    pick (ltb (length b - middle) 8) (lacking 3 middle)
    (pick (ltb (length b - (middle + 8)) (number_at b middle)) (lacking 4 middle) (standing at middle (number_at b middle)))

-- the record that begins at `at`: its count of hashes ends the first 64 bytes
unfoldable pub parts_at : List ℕ → ℕ → Told
parts_at b at =
    pick (ltb (length b - at) 64) (lacking 1 at)
    (pick (ltb ((length b - (at + 64)) / 32) (number_at b (at + 56))) (lacking 2 (at + 56))
    (output_at b at (at + 64 + 32 * number_at b (at + 56))))

-- a record that is whole begins at `at` and ends within n bytes
pub record Whole (at n : ℕ) (p : Told) : Type 0 where
  pub ahead : p.hashes ≡ at + 64
  pub proof : p.hashes ≤ p.middle
  pub count : p.output ≡ p.middle + 8
  pub shown : p.output ≤ p.end
  pub within : p.end ≤ n

-- ---- what the code answers

-- a fault's number
abbrev pub number_of : Missing → ℕ
number_of Ahead = 1
number_of Hashes = 2
number_of Count = 3
number_of Output = 4

-- the parts of the record that begins at `at`
abbrev pub told : ℕ → Parts → Told
told at p = record { fault = 0; from = at; hashes = p.hashes; middle = p.middle; output = p.output; end = p.end }

abbrev pub told_of : ℕ → Result Parts Fault → Told
told_of at (Ok p) = told at p
told_of at (Err f) = lacking (number_of f.missing) f.from

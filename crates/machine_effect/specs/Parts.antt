-- The parts of the machine that an effect is given, put together as its definition has them. z is the sector size. Assumes nothing.
use Rattle.std.specs.Prelude.{List, ℕ, ◌+◌, ◌*◌, ◌/◌, ◌%◌, get_or}
use Rattle.area.specs.Area.{zeros}
use Rattle.host.specs.Empty.{none}
use Rattle.machine_rules.specs.Effect as Says
use Rattle.machine_rules.specs.Effect.{new_copy, span_read, span_written}
use Rattle.machine_effect.specs.declared.staging.Ground.{Ground}
use Rattle.machine_effect.specs.declared.staging.Staging.{Staging}

abbrev pub ground : ℕ → List ℕ → List ℕ → Says.Ground
ground copies slots disk = record { copies = copies; slots = slots; disk = disk }

abbrev pub staging : List ℕ → List ℕ → Says.Staging
staging staged bytes = record { staged = staged; bytes = bytes }

-- what the code hands on of them
abbrev pub told_ground : Ground → Says.Ground
told_ground e = ground e.copies e.slots e.disk.now

abbrev pub told_staging : Staging → Says.Staging
told_staging g = staging g.staged g.bytes.now

-- "Growth stages zeros": position `at` in the lowest free slot, with zeros
unfoldable pub grown : ℕ → Says.Ground → ℕ → Says.Staging → Says.Staging
grown z e at g = new_copy z e at (zeros z) g

-- where byte `at` of the parent lies in an area, by the slots of its positions
abbrev pub place_of : ℕ → List ℕ → ℕ → ℕ
place_of z slots at = get_or slots (at / z) none * z + at % z

-- "Copy reads the whole source first."
abbrev pub span_copied : ℕ → Says.Ground → ℕ → ℕ → ℕ → Says.Staging → Says.Staging
span_copied z e to from n g = span_written z e to (span_read z e from n g) g

-- "Swap reads both spans, writes the first at offset 2, then the second at offset 1."
abbrev pub spans_swapped : ℕ → Says.Ground → ℕ → ℕ → ℕ → Says.Staging → Says.Staging
spans_swapped z e one two n g = span_written z e one (span_read z e two n g) (span_written z e two (span_read z e one n g) g)

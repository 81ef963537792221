-- What kinds of instructions differ in, as one table. Assumes nothing.
use Rattle.std.specs.Prelude.{Bool, true, false, ℕ}
use Rattle.sia.specs.declared.Op.{Op}
use Rattle.sia.specs.declared.Op.TheVariants.{Read, ReadSector, Write, Copy, Swap, Truncate, Unknown}
use Rattle.machine_rules.specs.declared.Kind.{Kind}

abbrev pub row : Bool → ℕ → ℕ → Bool → Bool → Kind
row known operands time reads changes = record { known = known; operands = operands; time = time; reads = reads; changes = changes }

-- "Names are Read, ReadSector, Write, Copy, Swap, Truncate": every other name is unknown.
-- "Read (contract, offset, length); ReadSector (root, offset, length); Write (offset, data); Copy (destination, source, size);
-- Swap (offset 1, offset 2, size); Truncate (new size)."
-- "Times: Read, ReadSector 10; Write, Copy 20; Swap 30; Truncate 5."
-- known, operands, time, reads, changes
unfoldable pub kind : Op → Kind
kind Read = row true 3 10 true false
kind ReadSector = row true 3 10 true false
kind Write = row true 2 20 false true
kind Copy = row true 3 20 false true
kind Swap = row true 3 30 false true
kind Truncate = row true 1 5 false true
kind Unknown = row false 0 0 false false

abbrev pub known : Op → Bool
known op = (kind op).known

abbrev pub operands_of : Op → ℕ
operands_of op = (kind op).operands

abbrev pub time : Op → ℕ
time op = (kind op).time

-- "Read or ReadSector"
abbrev pub reads : Op → Bool
reads op = (kind op).reads

-- "Write, Copy, Swap or Truncate"
abbrev pub changes : Op → Bool
changes op = (kind op).changes

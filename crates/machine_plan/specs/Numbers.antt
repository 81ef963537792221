-- What pricing asks: lengths that are charged for. Assumes nothing.
use Rattle.std.specs.Prelude.{ℕ, ◌≤◌}
use Rattle.sia.specs.declared.Op.{Op}
use Rattle.sia.specs.declared.Op.TheVariants.{Read, ReadSector, Write, Copy, Swap, Truncate, Unknown}

-- a length that is charged for is within the largest sector
unfoldable pub Small : Op → ℕ → Type 0
Small Read n = n ≤ 4194304
Small ReadSector n = n ≤ 4194304
Small Write n = n ≤ 4194304
Small Copy n = n ≤ 4194304
Small Swap n = n ≤ 4194304
Small Truncate n = Unit {0}
Small Unknown n = Unit {0}

-- "Every choice of slot, disk or stage, is the lowest free one." Assumes nothing.
use Rattle.std.specs.Prelude.{Bool, ℕ, zero, suc}
use Rattle.lists.specs.Pick.{pick}

-- the lowest of i, i + 1, … (n of them) that passes the test; the first past them where none does
unfoldable pub lowest : (ℕ → Bool) → ℕ → ℕ → ℕ
lowest p i zero = i
lowest p i (suc n) = let rest = lowest p (suc i) n in pick (p i) i rest

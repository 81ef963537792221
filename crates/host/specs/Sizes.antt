-- Which sizes of sectors there are. Assumes nothing.
use Rattle.std.specs.Prelude.{Bool, false, ℕ, zero, suc, ◌*◌, ◌^◌, eqb}
use Rattle.lists.specs.Pick.{either}

-- 4,096 doubled fewer than n times
unfoldable pub doubled : ℕ → ℕ → Bool
doubled zero z = false
doubled (suc d) z = either (eqb z (4096 * 2 ^ d)) (doubled d z)

-- "any power of two from 4,096 to 4,194,304"
unfoldable pub is_size : ℕ → Bool
is_size z = doubled 11 z

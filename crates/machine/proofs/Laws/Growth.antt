-- A difference of two sizes is a number that 64 bits with a sign hold. Assumes nothing.
use Rattle.lists.proofs.Kit.{Bool, true, false, cond, ℕ, zero, suc, ◌-◌, ◌<◌, ◌^◌, arith, ltb}
use lib.IntN.{pos, negsuc, ◌-ℤ◌}
use lib.Signed.{mag}
use mir.Syntax.{w64}
use mir.Val.{SFits, to_z}
use mir.Facts.{to_z_pos}

either-small : (t : Bool) (m n most : ℕ) → m < most → n < most → mag (cond t (negsuc m) (pos n)) < most
either-small true m n most p q = p
either-small false m n most p q = q

pub difference : (a b : ℕ) → a < 2 ^ 63 → b < 2 ^ 63 → SFits w64 (pos a -ℤ pos b)
difference a zero p q = record { sfits = omega (arith, p) }
difference a (suc b) p q =
    record { sfits = either-small (ltb a (suc b)) (suc b - suc a) (a - suc b) (2 ^ 63) (omega (arith, q)) (omega (arith, p)) }

-- of two numbers as the code has them
pub differs : (a b : ℕ) → a < 2 ^ 63 → b < 2 ^ 63 → SFits w64 (to_z w64 a -ℤ to_z w64 b)
differs a b p q = rw (to_z_pos w64 p, to_z_pos w64 q) (difference a b p q)

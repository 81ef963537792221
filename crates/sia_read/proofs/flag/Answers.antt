-- `sia_read::flag` meets its contract: a byte is missing, 0 or 1, or above 1. Assumes nothing.
use Rattle.lists.proofs.Kit.{refl, ap, ℕ, arith, eqb, lt-ltb, le-ltb}
use Rattle.lists.proofs.Laws.Pick.{yes, no}
use Rattle.sia.specs.Decode.{value, flag}
use Rattle.sia_read.proofs.Laws.{goes, stops, fails, one-byte}
use Rattle.sia_read.proofs.flag.Goals as goal

pub returns-in_err-byte : goal.returns-in_err-byte
unfolding flag
returns-in_err-byte c = fails _ _ _ c.from_residual.ensures (stops _ c.in_err-byte.ensures)

pub returns-then-byte-le1 : goal.returns-then-byte-le1
unfolding flag
returns-then-byte-le1 c =
    let read = c.in_ok-byte.ensures in
    goes _ read (no _ _ _ (le-ltb _ _ (omega (arith, one-byte _ read, c.if-byte-le1.true)))
    (ap (λ (n : ℕ). value (eqb n 1) c.bytes.new.rest.now) (one-byte _ read)))

pub returns-else-byte-le1 : goal.returns-else-byte-le1
unfolding flag
returns-else-byte-le1 c =
    let read = c.in_ok-byte.ensures in
    goes _ read (yes _ _ _ (lt-ltb _ _ (omega (arith, one-byte _ read, c.if-byte-le1.false))) refl)

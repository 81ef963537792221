-- `sia_read::limited` meets its contract: a number, and then the limit. Assumes nothing.
use Rattle.lists.proofs.Kit.{refl, lt-ltb, le-ltb}
use Rattle.lists.proofs.Laws.Pick.{yes, no}
use Rattle.sia.specs.Decode.{limited}
use Rattle.sia_read.proofs.Laws.{goes, stops, fails}
use Rattle.sia_read.proofs.limited.Goals as goal

pub returns-in_err-n : goal.returns-in_err-n
unfolding limited
returns-in_err-n c = fails _ _ _ c.from_residual.ensures (stops _ c.in_err-n.ensures)

pub returns-then-limit-n : goal.returns-then-limit-n
unfolding limited
returns-then-limit-n c = goes _ c.in_ok-n.ensures (yes _ _ _ (lt-ltb _ _ c.if-limit-n.true) refl)

pub returns : goal.returns
unfolding limited
returns c = goes _ c.in_ok-n.ensures (no _ _ _ (le-ltb _ _ c.if-limit-n.false) refl)

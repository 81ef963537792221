-- `machine::opening::room_right` meets its contract. Assumes nothing.
use Rattle.lists.proofs.Kit.{refl, le-leb, lt-leb}
use Rattle.lists.proofs.Laws.Pick.{yes, no}
use Rattle.machine_rules.specs.Calls.{room_right}
use Rattle.machine.proofs.opening.room_right.Goals as goal

pub returns-then-room-lt-LEAST : goal.returns-then-room-lt-LEAST
unfolding room_right
returns-then-room-lt-LEAST c = no _ _ _ (lt-leb _ _ c.if-room-lt-LEAST.true) refl

pub returns : goal.returns
unfolding room_right
returns c = yes _ _ _ (le-leb _ _ c.if-room-lt-LEAST.false) refl

-- `area::move_up` meets its contract. The loop's invariant: all but the first i of the n bytes are laid. The byte that a turn reads
-- lies in front of all of those, so it is the one of the start. Assumes nothing.
use Rattle.lists.proofs.Kit.{◌≡◌, ◌+◌, ◌≤◌, length, drop}
use Rattle.area.specs.Area.{part, put}
use Rattle.area.proofs.move_up.Given as goal

abbrev pub invariant-loop-i : goal.invariant-loop-i
invariant-loop-i l = (l.i ≤ l.n) × (length l.a ≡ length l.initial.a) × (l.a ≡ put l.initial.a (l.to + l.i) (drop l.i (part l.initial.a l.from l.n)))

abbrev pub decreases-loop-i : goal.decreases-loop-i
decreases-loop-i l = l.i

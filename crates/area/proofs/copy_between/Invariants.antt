-- `area::copy_between` meets its contract. The loop's invariant: the first i of the n bytes are laid. A turn lays one more.
-- Assumes nothing.
use Rattle.lists.proofs.Kit.{◌≡◌, ◌-◌, ◌≤◌, length, take}
use Rattle.area.specs.Area.{part, put}
use Rattle.area.proofs.copy_between.Given as goal

abbrev pub invariant-loop-i : goal.invariant-loop-i
invariant-loop-i l = (l.i ≤ l.n) × (length l.dst ≡ length l.initial.dst) × (l.dst ≡ put l.initial.dst l.to (take l.i (part l.src l.from l.n)))

abbrev pub decreases-loop-i : goal.decreases-loop-i
decreases-loop-i l = l.n - l.i

-- `machine::commit::new_slots` meets its contract. The loop's invariant: what is left to lay is laid from `at` on. Assumes nothing.
use Rattle.lists.proofs.Kit.{◌≡◌, ◌-◌}
use Rattle.area.specs.Area.{put}
use Rattle.machine.specs.Marks.{new_from}
use Rattle.machine.proofs.commit.new_slots.Given as goal

abbrev pub invariant-loop-at : goal.invariant-loop-at
invariant-loop-at l = put l.fn.slots l.from (new_from l.disk l.fn.taken (l.end - l.from)) ≡ put l.slots l.at (new_from l.disk l.taken (l.end - l.at))

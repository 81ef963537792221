-- `slot` meets its contract: the slot lies within the area. Assumes nothing.
use Rattle.lists.proofs.Kit.{◌+◌, ◌*◌, ◌≤◌, arith, length, leb-true}
use Rattle.machine_sight.specs.Seen.{holds}
use Rattle.machine_sight.proofs.Laws.Sectors.{cut-is}
use Rattle.machine_sight.proofs.sectors.slot.Goals as goal
use Rattle.machine_sight.proofs.sectors.slot.Goals.{Start}

within : (s : Start) → s.args.n * s.args.z + s.args.z ≤ length s.args.area.now
unfolding holds
within s = leb-true _ _ s.requires

pub returns : goal.returns
returns c = cut-is c.args.z c.args.area.now c.args.n (within (goal.at.returns c).Start)

pub overflow_mul-from : goal.overflow_mul-from
overflow_mul-from c = omega (arith, within (goal.at.overflow_mul-from c).Start)

pub overflow_add-result : goal.overflow_add-result
overflow_add-result c = omega (arith, within (goal.at.overflow_add-result c).Start)

pub slice_bounds-result-end : goal.slice_bounds-result-end
slice_bounds-result-end c = omega (arith, within (goal.at.slice_bounds-result-end c).Start)

-- `host::taken::slots_taken` meets its contract. The loop's invariant: the slots of the places so far are listed. Assumes nothing.
use Rattle.lists.proofs.Kit.{◌≡◌, ◌*◌, ◌≤◌, take}
use Rattle.host.specs.Listed.{listed}
use Rattle.host.specs.Places.{taken}
use Rattle.host.proofs.taken.slots_taken.Given as goal

abbrev pub invariant-loop-p : goal.invariant-loop-p
invariant-loop-p l = (l.taken.count ≤ 64 * l.p-index) × (listed l.taken ≡ taken l.z (take l.p-index l.fn.places))

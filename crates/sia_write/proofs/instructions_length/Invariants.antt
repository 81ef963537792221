-- The loop's invariant: the total is the length of the bytes of the instructions so far, each of which is at most 89 bytes long. Assumes nothing.
use Rattle.lists.proofs.Kit.{◌≡◌, ◌*◌, ◌≤◌, length, take}
use Rattle.sia.specs.Encode.{joined, instruction_bytes}
use Rattle.sia_write.proofs.instructions_length.Given as goal

abbrev pub invariant-loop-x : goal.invariant-loop-x
invariant-loop-x l = (l.total ≡ length (joined instruction_bytes (take l.x-index l.list))) × (l.total ≤ 89 * l.x-index)

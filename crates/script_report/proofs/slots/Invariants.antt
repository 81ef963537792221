-- `script_report::slots` is safe: after so many slots eight bytes are written of each. Assumes nothing.
use Rattle.std.proofs.Common.{◌≡◌, ◌+◌, ◌*◌, length}
use Rattle.script_report.proofs.slots.Given as goal

abbrev pub invariant-loop-slot : goal.invariant-loop-slot
invariant-loop-slot l = (length l.report ≡ length l.initial.report) × (l.end ≡ l.at + 8 * l.slot-index)

-- `script_report::whole_host` is safe: after so many places at most 560 bytes are written of each. Assumes nothing.
use Rattle.std.proofs.Common.{◌≡◌, ◌+◌, ◌*◌, ◌≤◌, length}
use Rattle.script_report.proofs.whole_host.Given as goal

abbrev pub invariant-loop-p : goal.invariant-loop-p
invariant-loop-p l = (length l.report ≡ length l.initial.report) × (l.end ≤ l.initial.end + 560 * l.p-index)

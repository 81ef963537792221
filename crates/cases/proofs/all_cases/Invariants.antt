-- `cases::all_cases` is safe: the area stays as long as it is. Assumes nothing.
use Rattle.std.proofs.Common.{◌≡◌, length}
use Rattle.cases.proofs.all_cases.Given as goal

abbrev pub invariant-loop-place : goal.invariant-loop-place
invariant-loop-place g l = length l.shown ≡ length l.initial.shown

-- `calls::play_all` is safe: the areas stay as long as they are. Assumes nothing.
use Rattle.std.proofs.Common.{◌≡◌, length}
use Rattle.calls.proofs.play_all.Given as goal

abbrev pub invariant-loop : goal.invariant-loop
invariant-loop g l =
    (length l.item ≡ length l.initial.item) × (length l.disk ≡ length l.initial.disk) × (length l.stage ≡ length l.initial.stage)
    × (length l.input ≡ length l.initial.input) × (length l.output ≡ length l.initial.output)
    × (length l.report ≡ length l.initial.report)

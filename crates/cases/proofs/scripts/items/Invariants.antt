-- `cases::scripts::items` is safe: the areas stay as long as they are, and what is played and shown is within them. Assumes nothing.
use Rattle.std.proofs.Common.{◌≡◌, ◌≤◌, length}
use Rattle.cases.proofs.scripts.items.Given as goal

abbrev pub invariant-loop : goal.invariant-loop
invariant-loop g l =
    (length l.item ≡ length l.initial.item) × (length l.disk ≡ length l.initial.disk) × (length l.stage ≡ length l.initial.stage)
    × (length l.input ≡ length l.initial.input) × (length l.output ≡ length l.initial.output)
    × (length l.shown ≡ length l.initial.shown) × (l.end ≤ length l.shown)

-- `stdout::hex` is safe: the digits held are pairs, and no more than the array takes. Assumes nothing.
use Rattle.std.proofs.Common.{◌≡◌, ◌%◌, ◌≤◌}
use Rattle.stdout.proofs.hex.Given as goal

abbrev pub invariant-loop-byte : goal.invariant-loop-byte
invariant-loop-byte g l = record { held : l.held ≤ 128; pairs : l.held % 2 ≡ 0 }

-- The digests end within the area, and each length of a message is one that there is room for. Assumes nothing.
use Rattle.std.proofs.Common.{◌≤◌, length, get_or, ℕ}
use Rattle.blake2b_vectors.proofs.self_test.of_length.Given as goal

abbrev pub invariant-loop-ll : goal.invariant-loop-ll
invariant-loop-ll l = record { within : l.end ≤ length l.all; small : (k : ℕ) → get_or l.ll-items k 0 ≤ 1024 }

-- The digests end within the area, and each length of a digest is one that there is. Assumes nothing.
use Rattle.std.proofs.Common.{◌≤◌, length, get_or, ℕ}
use Rattle.blake2b_vectors.proofs.self_test.grand_digest.Given as goal

abbrev pub invariant-loop-nn : goal.invariant-loop-nn
invariant-loop-nn l = record { within : l.at ≤ length l.all; small : (k : ℕ) → get_or l.nn-items k 0 ≤ 64 }

-- What `flipped` counts is at most as much as the turns. Assumes nothing.
use Rattle.std.proofs.Common.{◌≤◌}
use Rattle.tree_vectors.proofs.flipped.Given as goal

abbrev pub invariant-loop-k : goal.invariant-loop-k
invariant-loop-k l = l.times ≤ l.k

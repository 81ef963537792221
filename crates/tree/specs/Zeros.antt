-- The root of a power of two of segments of zeros, by doubling. Assumes nothing.
use Rattle.std.specs.Prelude.{List, ℕ, zero, suc}
use Rattle.area.specs.Area.{zeros}
use Rattle.tree.specs.Tree.{leaf, node}

-- of 2 ^ k segments: one leaf, and one node a level, since both halves have the same root
unfoldable pub doubled : ℕ → List ℕ
doubled zero = leaf (zeros 64)
doubled (suc k) = let half = doubled k in node half half

-- The leaves that a tree stands over, as the code has them: segments or parts' roots. Assumes nothing.
use Rattle.std.specs.Prelude.{Bool, true, false, List, ℕ, ◌/◌, length}
use Rattle.tree.specs.Tree.{leaf_of, root_over}
use Rattle.tree.specs.Asks.{Covers}
use Rattle.tree.specs.declared.leaves.Leaves.{Leaves}
use Rattle.tree.specs.declared.leaves.Leaves.TheVariants.{Segments, Roots}

abbrev pub are_roots : Leaves → Bool
are_roots (Segments bytes) = false
are_roots (Roots roots) = true

abbrev pub bytes_of : Leaves → List ℕ
bytes_of (Segments bytes) = bytes.now
bytes_of (Roots roots) = roots.now

-- the bytes of one
abbrev pub width : Leaves → ℕ
width (Segments bytes) = 64
width (Roots roots) = 32

-- how many there are
abbrev pub count : Leaves → ℕ
count l = length (bytes_of l) / width l

-- leaf i
abbrev pub leaf_at : Leaves → ℕ → List ℕ
leaf_at l = leaf_of (are_roots l) (bytes_of l)

-- the root over all
abbrev pub root_all : Leaves → List ℕ
root_all l = root_over (count l) (leaf_at l)

-- m leaves at least
abbrev pub Has : Leaves → ℕ → Type 0
Has l m = Covers (are_roots l) (bytes_of l) m

-- One level down the tree, as the code cuts a subtree. Assumes nothing.
use Rattle.std.specs.Prelude.{◌≡◌, ◌+◌, ◌-◌, ◌^◌, ◌≤◌, ◌<◌}
use Rattle.tree.specs.declared.walks.Subtree.{Subtree}
use Rattle.tree.specs.declared.walks.Below.{Below}
use Rattle.tree.specs.declared.walks.Below.TheVariants.{One, Two}

-- the left half has 2 ^ (depth - 1) leaves: it holds them all, or is full, and the rest are at its right
abbrev pub IsBelow : Subtree → Below → Type 0
IsBelow sub (One low) =
    (sub.n ≤ 2 ^ (sub.depth - 1)) × (low ≡ record { at = sub.at; n = sub.n; depth = sub.depth - 1 })
IsBelow sub (Two left right) =
    (2 ^ (sub.depth - 1) < sub.n) × (left ≡ record { at = sub.at; n = 2 ^ (sub.depth - 1); depth = sub.depth - 1 })
    × (right ≡ record { at = sub.at + 2 ^ (sub.depth - 1); n = sub.n - 2 ^ (sub.depth - 1); depth = sub.depth - 1 })

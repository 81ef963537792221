-- The first 64 bytes of a record. Assumes nothing.
use Rattle.std.specs.Prelude.{List, ◌++◌, ℕ}
use Rattle.area.specs.Little.{le8}
use Rattle.machine_rules.specs.declared.Pair.{Pair}

-- "number (0 if it succeeded), cost, new size (8 each), new root (32), proof count"
unfoldable pub front : ℕ → ℕ → Pair → ℕ → List ℕ
front number cost p hashes = le8 number ++ (le8 cost ++ (le8 p.size ++ (p.root ++ le8 hashes)))

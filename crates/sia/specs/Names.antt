-- "Names are Read, ReadSector, Write, Copy, Swap, Truncate, filled with zero bytes. The contract "ReadOnly", filled to 32 with
-- zeros, means read-only mode." Assumes nothing.
use Rattle.std.specs.Prelude.{List, ◌∷◌, ℕ}
use Rattle.lists.specs.Pick.{pick}
use Rattle.area.specs.Area.{same, zeros}
use Rattle.sia.specs.declared.Op.{Op}
use Rattle.sia.specs.declared.Op.TheVariants.{Read, ReadSector, Write, Copy, Swap, Truncate, Unknown}

-- the 16 bytes of a name, in ASCII; Unknown stands for every other name, and here for the empty one
abbrev pub name_of : Op → List ℕ
name_of Read = 82 ∷ 101 ∷ 97 ∷ 100 ∷ zeros 12
name_of ReadSector = 82 ∷ 101 ∷ 97 ∷ 100 ∷ 83 ∷ 101 ∷ 99 ∷ 116 ∷ 111 ∷ 114 ∷ zeros 6
name_of Write = 87 ∷ 114 ∷ 105 ∷ 116 ∷ 101 ∷ zeros 11
name_of Copy = 67 ∷ 111 ∷ 112 ∷ 121 ∷ zeros 12
name_of Swap = 83 ∷ 119 ∷ 97 ∷ 112 ∷ zeros 12
name_of Truncate = 84 ∷ 114 ∷ 117 ∷ 110 ∷ 99 ∷ 97 ∷ 116 ∷ 101 ∷ zeros 8
name_of Unknown = zeros 16

-- which instruction a name is: all 16 bytes count. "An unknown name is no fault of the head."
unfoldable pub op_of : List ℕ → Op
op_of name =
    pick (same name (name_of Read)) Read
    (pick (same name (name_of ReadSector)) ReadSector
    (pick (same name (name_of Write)) Write
    (pick (same name (name_of Copy)) Copy
    (pick (same name (name_of Swap)) Swap
    (pick (same name (name_of Truncate)) Truncate
    Unknown)))))

-- the ReadOnly word: 32 bytes
abbrev pub read_only : List ℕ
read_only = 82 ∷ 101 ∷ 97 ∷ 100 ∷ 79 ∷ 110 ∷ 108 ∷ 121 ∷ zeros 24

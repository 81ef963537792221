-- Roots and proofs of what is seen. Every root of a sector comes by one reader, `root_of`: those of contracts, the look-up of a root, and the
-- proofs take it as a function of spots. z is the sector size. Assumes nothing.
use Rattle.std.specs.Prelude.{List, [], ◌∷◌, ℕ, ◌+◌, ◌*◌, ◌/◌, ◌%◌, get_or}
use Rattle.area.specs.Area.{zeros}
use Rattle.tree.specs.Tree.{root, join}
use Rattle.tree.specs.Walk.{count, proof_in}
use Rattle.sia.specs.Encode.{joined}
use Rattle.machine_rules.specs.View.{Way, kept, worked, Turn, sector, Volume}
use Rattle.machine_rules.specs.declared.Setting.{Setting}
use Rattle.machine_rules.specs.declared.Spot.{Spot}

-- ---- the reader of roots

-- worked out from the sector's bytes
unfoldable pub sector_root : ℕ → List ℕ → List ℕ → Spot → List ℕ
sector_root z disk stage x = root (sector z disk stage x)

-- as it is kept beside the slot: the roots stand one after another, 32 bytes each, those of the disk and those of the stage
unfoldable pub kept_root : List ℕ → List ℕ → Spot → List ℕ
kept_root roots copies x = sector 32 roots copies x

unfoldable pub root_by : Way → ℕ → List ℕ → List ℕ → List ℕ → List ℕ → Spot → List ℕ
root_by kept z disk stage roots copies x = kept_root roots copies x
root_by worked z disk stage roots copies x = sector_root z disk stage x

-- with the stage's bytes, and the roots kept beside its slots
unfoldable pub root_of : Setting → Volume → List ℕ → List ℕ → Spot → List ℕ
root_of s vol stage copies x = root_by vol.way s.sector vol.disk stage vol.roots copies x

-- as a turn finds them
abbrev pub root_at : Setting → Volume → Turn → Spot → List ℕ
root_at s vol t = root_of s vol t.stage t.roots

-- of sectors on the disk
abbrev pub root_on_disk : Setting → Volume → Spot → List ℕ
root_on_disk s vol = root_of s vol [] []

-- ---- what follows from the roots of sectors

-- the tree's root over the sectors' roots, which is that of all the contract's bytes; "an empty contract's root is 32 zero bytes"
unfoldable pub contract_root : (Spot → List ℕ) → List Spot → List ℕ
contract_root f [] = zeros 32
contract_root f (x ∷ xs) = join (joined f (x ∷ xs))

-- the segments of n sectors
abbrev pub segments : ℕ → ℕ → ℕ
segments z n = n * (z / 64)

-- "Proof: walk the tree (Read: the contract as read; ReadSector: the sector)": of the n bytes from `at` on, which lie in one sector; outside that
-- sector the sectors' roots, inside it hashes of its bytes
unfoldable pub range_proof : ℕ → (Spot → List ℕ) → List ℕ → List ℕ → List Spot → ℕ → ℕ → List ℕ
range_proof z f disk stage [] at n = []
range_proof z f disk stage (x ∷ xs) at n =
    proof_in (joined f (x ∷ xs)) (at / z) (sector z disk stage (get_or (x ∷ xs) (at / z) x)) (at % z / 64) (at % z / 64 + n / 64)

-- how many hashes it has, from numbers alone: of so many sectors
unfoldable pub range_count : ℕ → ℕ → ℕ → ℕ → ℕ
range_count z sectors at n = count (segments z sectors) (at / 64) ((at + n) / 64)

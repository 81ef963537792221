-- Pairs of a size and a root, and the bytes of a record. z is the sector size; f reads roots. Assumes nothing.
use Rattle.std.specs.Prelude.{Bool, List, [], ◌∷◌, ◌++◌, ℕ, ◌/◌, ◌%◌, get_or, eqb}
use Rattle.lists.specs.Pick.{pick, both}
use Rattle.area.specs.Area.{same, part}
use Rattle.area.specs.Little.{le8}
use Rattle.machine_rules.specs.View.{sector, parent, parent_spots, committed_spots, Volume}
use Rattle.machine_rules.specs.declared.Setting.{Setting}
use Rattle.machine_rules.specs.Roots.{root_on_disk, contract_root, range_proof}
use Rattle.machine_rules.specs.declared.Args.{Args}
use Rattle.machine_rules.specs.Plan.{output_count}
use Rattle.sia.specs.declared.Op.{Op}
use Rattle.host.specs.declared.Place.{Place}
use Rattle.host.specs.declared.Progress.{Progress}
use Rattle.machine_rules.specs.Plan.{Plan}
use Rattle.machine_rules.specs.declared.Spot.{Spot}
use Rattle.machine_rules.specs.declared.Pair.{Pair}

-- ---- pairs

abbrev pub pairing : ℕ → List ℕ → Pair
pairing size root = record { size = size; root = root }

-- whether two pairs are the same: the sizes, and all bytes of the roots
unfoldable pub same_pair : Pair → Pair → Bool
same_pair one two = both (eqb one.size two.size) (same one.root two.root)

-- a contract as its committed sectors are
unfoldable pub pair_of : ℕ → (Spot → List ℕ) → Place → Pair
pair_of z f p = record { size = p.size; root = contract_root f (committed_spots z p) }

-- the parent's; size 0 and root zeros in read-only mode
unfoldable pub starting_pair : Setting → Volume → Pair
starting_pair s vol = pair_of s.sector (root_on_disk s vol) (parent s)

-- the parent as it is read now
unfoldable pub running_pair : Setting → (Spot → List ℕ) → Progress → Pair
running_pair s f p = record { size = p.size; root = contract_root f (parent_spots s p) }

-- ---- records

-- "Record: number (0 if it succeeded), cost, new size (8 each), new root (32), proof count and hashes, output count and bytes."
unfoldable pub record_bytes : ℕ → ℕ → Pair → ℕ → List ℕ → ℕ → List ℕ → List ℕ
record_bytes number cost pair hashes proof count output =
    le8 number ++ (le8 cost ++ (le8 pair.size ++ (pair.root ++ (le8 hashes ++ (proof ++ (le8 count ++ output))))))

-- "Failure: cost 0, starting size and root, both counts 0."
unfoldable pub failure_bytes : Setting → Volume → ℕ → List ℕ
failure_bytes s vol number = record_bytes number 0 (starting_pair s vol) 0 [] 0 []

-- what a Read or ReadSector hands out: its span of the sectors that are read
unfoldable pub output_of : ℕ → List ℕ → List ℕ → List Spot → Args → List ℕ
output_of z disk stage [] a = []
output_of z disk stage (x ∷ xs) a = part (sector z disk stage (get_or (x ∷ xs) (a.first / z) x)) (a.first % z) a.len

-- of an instruction that ran as planned: p and stage are the progress and the stage after it, f the roots after it, l the sectors that it reads
unfoldable pub success_bytes : Setting → Volume → (Spot → List ℕ) → Plan → Progress → Bool → List Spot → Op → Args → List ℕ → List ℕ
success_bytes s vol f plan p asked l op a stage =
    record_bytes 0 plan.cost (running_pair s f p)
    plan.hashes (pick asked (range_proof s.sector f vol.disk stage l a.first a.len) [])
    (output_count op a) (pick (eqb (output_count op a) 0) [] (output_of s.sector vol.disk stage l a))

-- What a record shows of what was read: its proof and its bytes. z is the sector size; f reads roots. Assumes nothing.
use Rattle.std.specs.Prelude.{◌≡◌, Bool, true, List, [], ℕ, ◌+◌, ◌*◌, ◌/◌, ◌%◌, ◌≤◌, length}
use Rattle.lists.specs.Pick.{pick}
use Rattle.area.specs.Area.{part}
use Rattle.machine_rules.specs.View.{sector, spot_of}
use Rattle.machine_rules.specs.Roots.{kept_root, range_proof}
use Rattle.machine_sight.specs.Seen.{spots_of, Lies, Known, Inside, Ranged}
use Rattle.machine_rules.specs.declared.Spot.{Spot}
use Rattle.machine_sight.specs.declared.Seen.{Seen}

-- the proof of the n bytes from `at` on, where one is asked
unfoldable pub shown_proof : ℕ → Bool → (Spot → List ℕ) → List ℕ → List ℕ → Seen → ℕ → ℕ → List ℕ
shown_proof z asked f disk stage v at n = pick asked (range_proof z f disk stage (spots_of v) at n) []

-- the n bytes themselves, where they are read
unfoldable pub shown_bytes : ℕ → Bool → List ℕ → List ℕ → Seen → ℕ → ℕ → List ℕ
shown_bytes z reads disk stage v at n = pick reads (part (sector z disk stage (spot_of v.slots v.staged (at / z))) (at % z) n) []

-- what is seen lies in the areas and its roots are kept, what is shown lies in it, and there is room for the record
pub record Shows (z : ℕ) (diskroots stageroots disk stage : List ℕ) (v : Seen) (asked reads : Bool) (at n hashes : ℕ) (out : List ℕ)
    : Type 0 where
  pub known : Known diskroots stageroots v
  pub lies : Lies z disk stage v
  pub inside : reads ≡ true → Inside z v.count at n
  pub ranged : asked ≡ true → Ranged z v.count at n
  pub count : length (shown_proof z asked (kept_root diskroots stageroots) disk stage v at n) ≡ 32 * hashes
  pub room : 72 + 32 * hashes + pick reads n 0 ≤ length out

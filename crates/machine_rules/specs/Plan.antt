-- Whether an instruction can run and what it costs: numbers alone, but for ReadSector, which looks a root up: f reads roots. z is the sector size.
-- Assumes nothing.
use Rattle.std.specs.Prelude.{Bool, true, false, not, List, [], ◌∷◌, ℕ, ◌+◌, ◌*◌, ◌/◌, ◌%◌, length, get_or, ltb, eqb}
use Rattle.lists.specs.Pick.{pick, both, either}
use Rattle.lists.specs.Tests.{those}
use Rattle.area.specs.Area.{same}
use Rattle.sia.specs.Names.{op_of}
use Rattle.host.specs.Empty.{none}
use Rattle.host.specs.Places.{whose, others}
use Rattle.machine_rules.specs.Kinds.{time, reads, changes}
use Rattle.machine_rules.specs.View.{read_only_mode, free_copies, parent_spots, committed_spots}
use Rattle.machine_rules.specs.declared.Setting.{Setting}
use Rattle.machine_rules.specs.Roots.{range_count}
use Rattle.machine_rules.specs.Seats.{seats_of, first_seat}
use Rattle.machine_rules.specs.Inputs.{ill_formed, past_end, well_formed, args_of}
use Rattle.machine_rules.specs.declared.Args.{Args}
use Rattle.sia.specs.declared.Instruction.{Instruction}
use Rattle.sia.specs.declared.Op.{Op}
use Rattle.sia.specs.declared.Op.TheVariants.{Read, ReadSector, Write, Copy, Swap, Truncate, Unknown}
use Rattle.host.specs.declared.Prices.{Prices}
use Rattle.host.specs.declared.Progress.{Progress}
use Rattle.machine_rules.specs.declared.Spot.{Spot}
use Rattle.std.specs.Prelude.{Option, Some, None}
use Rattle.machine_rules.specs.declared.Seat.{Seat}

-- ---- the plan of an instruction

-- the number of its failure and nothing else, or 0 with its cost, the parent's new size, the hashes of its proof and the length of its record
pub record Plan : Type 0 where
  pub number : ℕ
  pub cost : ℕ
  pub size : ℕ
  pub hashes : ℕ
  pub count : ℕ

-- ---- 25: what is read

-- the sectors that are read, or none: "contract or sector root not found"
pub data Source : Type 0 where
  missing : Source
  seen : List Spot → Source

unfoldable pub is_there : Source → Bool
is_there missing = false
is_there (seen l) = true

unfoldable pub spots : Source → List Spot
spots missing = []
spots (seen l) = l

-- Read: the parent as it is now, another contract as committed
unfoldable pub contract_source : Setting → Progress → List ℕ → Source
contract_source s p id =
    let other = whose id s.places in
    let own = seen (parent_spots s p) in
    let committed = seen (committed_spots s.sector other) in
    pick (not other.held) missing (pick (same id s.terms.head.contract) own committed)

-- ReadSector: the sector that has that root
unfoldable pub sought_source : Option Seat → Source
sought_source (Some x) = seen (x.spot ∷ [])
sought_source None = missing

unfoldable pub sector_source : Setting → (Spot → List ℕ) → Progress → List ℕ → Source
sector_source s f p key = sought_source (first_seat f key (seats_of s p))

-- the other instructions look nothing up
unfoldable pub source_of : Setting → (Spot → List ℕ) → Progress → Op → List ℕ → Source
source_of s f p Read key = contract_source s p key
source_of s f p ReadSector key = sector_source s f p key
source_of s f p Write key = seen []
source_of s f p Copy key = seen []
source_of s f p Swap key = seen []
source_of s f p Truncate key = seen []
source_of s f p Unknown key = seen []

-- ---- 26: spans

-- "span: length 0, past the end, or across a sector edge"
unfoldable pub bad_span : ℕ → ℕ → ℕ → ℕ → Bool
bad_span z end at n = either (eqb n 0) (either (ltb end (at + n)) (ltb z (at % z + n)))

-- "Truncate to no multiple of 4,096 or by more than one sector", where "4,096" is read "as the host's size"
unfoldable pub bad_size : ℕ → ℕ → ℕ → Bool
bad_size z size new = either (not (eqb (new % z) 0)) (either (ltb (size + z) new) (ltb (new + z) size))

-- of a read the span in the sectors that are read; Copy and Swap both spans, and Write's, in the parent
unfoldable pub bad_spans : ℕ → ℕ → ℕ → Op → Args → Bool
bad_spans z size sectors Read a = bad_span z (sectors * z) a.first a.len
bad_spans z size sectors ReadSector a = bad_span z (sectors * z) a.first a.len
bad_spans z size sectors Write a = bad_span z size a.first a.len
bad_spans z size sectors Copy a = either (bad_span z size a.first a.len) (bad_span z size a.second a.len)
bad_spans z size sectors Swap a = either (bad_span z size a.first a.len) (bad_span z size a.second a.len)
bad_spans z size sectors Truncate a = bad_size z size a.first
bad_spans z size sectors Unknown a = false

-- 27: "proof asked of other than Read or ReadSector, or with offset or length no multiple of 64"
unfoldable pub bad_proof : Op → Args → Bool
bad_proof op a = either (not (reads op)) (either (not (eqb (a.first % 64) 0)) (not (eqb (a.len % 64) 0)))

-- ---- 28: cost

-- "read R = ReadBase + ReadLength × length"
abbrev pub read_price : Prices → ℕ → ℕ
read_price p n = p.readbase + p.readlength * n

-- "write W = WriteBase + WriteLength × data length (count excluded)"
abbrev pub write_price : Prices → ℕ → ℕ
write_price p n = p.writebase + p.writelength * n

-- "Own: .. Copy R + W; Swap 2 × (R + W); Truncate TruncateBase."
unfoldable pub own : Prices → Op → ℕ → ℕ
own p Read n = read_price p n
own p ReadSector n = read_price p n
own p Write n = write_price p n
own p Copy n = read_price p n + write_price p n
own p Swap n = 2 * (read_price p n + write_price p n)
own p Truncate n = p.truncatebase
own p Unknown n = 0

-- "(1,048,576 + declared length) × time × Memory, plus the instruction's own"
unfoldable pub cost : ℕ → Prices → Op → ℕ → ℕ
cost declared p op n = (1048576 + declared) * time op * p.memory + own p op n

-- ---- 40: stage slots

-- positions written to, in the order in which they take slots: "Swap takes offset 2's slot first"
unfoldable pub touched : ℕ → ℕ → Op → Args → List ℕ
touched z size Read a = []
touched z size ReadSector a = []
touched z size Write a = a.first / z ∷ []
touched z size Copy a = a.first / z ∷ []
touched z size Swap a = pick (eqb (a.first / z) (a.second / z)) (a.second / z ∷ []) (a.second / z ∷ a.first / z ∷ [])
touched z size Truncate a = pick (ltb size a.first) (size / z ∷ []) []
touched z size Unknown a = []

-- "A sector written to, .. gets a stage copy unless it has one": how many need a slot
unfoldable pub wanted : ℕ → Progress → Op → Args → ℕ
wanted z p op a = length (those (λ at. eqb (get_or p.staged at none) none) (touched z p.size op a))

-- ---- 41: the new size

unfoldable pub new_size : ℕ → Op → Args → ℕ
new_size size Read a = size
new_size size ReadSector a = size
new_size size Write a = size
new_size size Copy a = size
new_size size Swap a = size
new_size size Truncate a = a.first
new_size size Unknown a = size

-- ---- 42: the record's length

unfoldable pub proof_count : ℕ → Bool → ℕ → Args → ℕ
proof_count z asked sectors a = let n = range_count z sectors a.first a.len in pick asked n 0

-- Read and ReadSector hand out what they read
unfoldable pub output_count : Op → Args → ℕ
output_count op a = pick (reads op) a.len 0

-- number, cost, size, root and the two counts are 72 bytes
unfoldable pub record_count : ℕ → Bool → ℕ → Op → Args → ℕ
record_count z asked sectors op a = 72 + 32 * proof_count z asked sectors a + output_count op a

-- ---- "Checks, first match wins": the plan

-- a failure: its number, and nothing else
unfoldable pub refused : ℕ → Plan
refused n = record { number = n; cost = 0; size = 0; hashes = 0; count = 0 }

-- 40 to 42 of an instruction that costs so much
unfoldable pub fitted : Setting → Progress → Bool → ℕ → Op → Args → ℕ → Plan
fitted s p asked sectors op a price =
    let size = new_size p.size op a in
    let count = record_count s.sector asked sectors op a in
    pick (ltb (free_copies s p) (wanted s.sector p op a)) (refused 40)
    (pick (ltb (s.disksectors * s.sector) (size + others s.terms.head.contract s.places)) (refused 41)
    (pick (ltb s.terms.room (p.written + count + 72)) (refused 42)
    (record { number = 0; cost = price; size = size; hashes = proof_count s.sector asked sectors a; count = count })))

-- 26 to 42, where what is read was found: so many sectors
unfoldable pub weighed : Setting → Progress → Bool → ℕ → Op → Args → Plan
weighed s p asked sectors op a =
    let price = cost s.terms.head.length s.terms.prices op a.len in
    pick (bad_spans s.sector p.size sectors op a) (refused 26)
    (pick (both asked (bad_proof op a)) (refused 27)
    (pick (ltb s.terms.budget (p.tally + price)) (refused 28)
    (fitted s p asked sectors op a price)))

-- 24 to 42, of arguments that are told
unfoldable pub planned_args : Setting → (Spot → List ℕ) → Progress → Bool → Op → Args → Plan
planned_args s f p asked op a =
    let from = source_of s f p op a.key in
    pick (both (changes op) (read_only_mode s.terms)) (refused 24)
    (pick (not (is_there from)) (refused 25)
    (weighed s p asked (length (spots from)) op a))

-- 23 to 42, where name and operands are right
unfoldable pub planned_inputs : Setting → (Spot → List ℕ) → Progress → Instruction → Op → List (List ℕ) → Plan
planned_inputs s f p i op l = pick (not (well_formed op l)) (refused 23) (planned_args s f p i.proof op (args_of op l))

unfoldable pub planned : Setting → (Spot → List ℕ) → Progress → Instruction → List (List ℕ) → Plan
planned s f p i l =
    pick (ill_formed i) (refused 21)
    (pick (past_end s.terms.head.length i) (refused 22)
    (planned_inputs s f p i (op_of i.name) l))

-- the failure's number, or 0 where it can run
unfoldable pub judged : Setting → (Spot → List ℕ) → Progress → Instruction → List (List ℕ) → ℕ
judged s f p i l = (planned s f p i l).number

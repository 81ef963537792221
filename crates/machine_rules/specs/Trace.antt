-- What happens on a visit, as the demands count it: pieces in turn, the records that a run writes, m, and what is charged. z is the sector
-- size. Assumes nothing.
use Rattle.std.specs.Prelude.{◌≡◌, List, [], ◌∷◌, ◌++◌, ℕ, zero, suc, ◌+◌, min, length, take, get_or, leb}
use Rattle.lists.specs.Pick.{pick}
use Rattle.area.specs.Area.{put}
use Rattle.sia.specs.Empty.{no_instruction}
use Rattle.host.specs.With.{program_of}
use Rattle.host.specs.Places.{whose}
use Rattle.machine_rules.specs.View.{Way, kept, Turn, turn_of, with_run, parent_spots, committed_spots, whole, Volume, setting_of, volume_by, volume_of}
use Rattle.machine_rules.specs.declared.Setting.{Setting}
use Rattle.machine_rules.specs.Roots.{root_of, root_at, root_on_disk}
use Rattle.machine_rules.specs.Inputs.{need, inputs_of}
use Rattle.machine_rules.specs.Plan.{planned}
use Rattle.machine_rules.specs.Record.{pair_of, starting_pair, running_pair}
use Rattle.machine_rules.specs.Run.{stepped, current, step, ready, run}
use Rattle.machine_rules.specs.Calls.{Pieced, pieced, piece_by, piece}
use Rattle.machine_rules.specs.Commit.{Closed}
use Rattle.machine_rules.specs.Visit.{Areas, Opening, Agreement, opens, closes}
use Rattle.host.specs.declared.Place.{Place}
use Rattle.host.specs.declared.Host.{Host}
use Rattle.machine_rules.specs.declared.Pair.{Pair}

-- ---- pieces in turn

-- pieces one after another
unfoldable pub together : List (List ℕ) → List ℕ
together [] = []
together (b ∷ bs) = b ++ together bs

-- a host and its areas before the first piece
abbrev pub lent_to : Host → Areas → Pieced
lent_to h a = pieced 0 (program_of h).progress.tally h a.stage a.input a.output

-- what pieces leave that are given in turn: "Areas are lent back as they were left, with no interrupt and no other call between."
unfoldable pub fed_by : Way → List ℕ → Pieced → List (List ℕ) → Pieced
fed_by way disk w [] = w
fed_by way disk w (b ∷ bs) = fed_by way disk (piece_by way disk w.host w.stage w.input w.output b) bs

abbrev pub fed : List ℕ → Pieced → List (List ℕ) → Pieced
fed disk w bs = fed_by kept disk w bs

-- each of them is answered with 0
abbrev pub AllAccepted : List ℕ → Pieced → List (List ℕ) → Type 0
AllAccepted disk w [] = Unit {0}
AllAccepted disk w (b ∷ bs) =
    ((piece disk w.host w.stage w.input w.output b).number ≡ 0)
    × AllAccepted disk (piece disk w.host w.stage w.input w.output b) bs

-- a head is opened and then pieces are given
abbrev pub visited_by : Way → Host → Opening → Areas → List (List ℕ) → Pieced
visited_by way h o a bs = fed_by way a.disk (lent_to (opens h o).host a) bs

abbrev pub visited : Host → Opening → Areas → List (List ℕ) → Pieced
visited h o a bs = visited_by kept h o a bs

-- the areas as pieces left them
abbrev pub left_by : Areas → Pieced → Areas
left_by a w = record { disk = a.disk; stage = w.stage; input = w.input; output = w.output }

-- a close after pieces
abbrev pub closes_after : Areas → Pieced → Agreement → Closed
closes_after a w g = closes w.host (left_by a w) g

-- what k bytes leave
unfoldable pub made : Host → ℕ → Turn → List ℕ → Pieced
made h k t area = pieced 0 t.progress.tally (with_run h k t.progress t.roots) t.stage area t.output

-- the state once k bytes have come: the run on the whole data, stopped at the first need that has not come
unfoldable pub after : Host → Areas → List ℕ → ℕ → Pieced
after h a all k = made h k (run (setting_of h) (volume_of h a.disk) all k (turn_of h a.stage a.output)) (put a.input 0 (take k all))

-- ---- records

-- the record of the instruction whose turn it is
unfoldable pub recorded : Setting → Volume → List ℕ → Turn → List ℕ
recorded s vol input t = (stepped s vol (current s t) (inputs_of (current s t) input) t).bytes

-- the records that a run writes, up to and including the first failure
unfoldable pub trail : Setting → Volume → List ℕ → ℕ → ℕ → Turn → List (List ℕ)
trail s vol input k zero t = []
trail s vol input k (suc n) t =
    let more = recorded s vol input t ∷ trail s vol input k n (step s vol input t) in
    pick (ready s k t) more []

-- how many of the instructions i, i + 1, … (n of them) in a row have a need that has come
unfoldable pub ripe : Setting → ℕ → ℕ → ℕ → ℕ
ripe s k i zero = 0
ripe s k i (suc n) =
    let more = suc (ripe s k (i + 1) n) in
    pick (leb (need s.terms.head.length (get_or s.terms.head.instructions i no_instruction)) k) more 0

-- the records of the whole run: what the data gives when all of it has come
unfoldable pub whole_run_by : Way → Host → Areas → List ℕ → List (List ℕ)
whole_run_by way h a all =
    let d = (program_of h).terms.head in
    trail (setting_of h) (volume_by way h a.disk) all d.length d.count (turn_of h a.stage a.output)

abbrev pub whole_run : Host → Areas → List ℕ → List (List ℕ)
whole_run h a all = whole_run_by kept h a all

-- m "counts, from the front up to and including the first failure, the instructions which, with all before them, need only bytes already
-- come"
unfoldable pub met : Host → Areas → List ℕ → ℕ → ℕ
met h a all k =
    min (ripe (setting_of h) k (program_of h).progress.ran (program_of h).terms.head.count) (length (whole_run h a all))

-- "the first m": the records once k bytes have come
abbrev pub first_records : Host → Areas → List ℕ → ℕ → List (List ℕ)
first_records h a all k = take (met h a all k) (whole_run h a all)

-- how many instructions of an open program have left a record
abbrev pub records_in : Host → ℕ
records_in h = (program_of h).progress.ran + pick (program_of h).progress.failed 1 0

-- the last of records, r where there are none
unfoldable pub last_of : List ℕ → List (List ℕ) → List ℕ
last_of r [] = r
last_of r (x ∷ xs) = last_of x xs

-- ---- cost

-- what the instructions of a run are charged: each its plan's cost, which is 0 of one that fails
unfoldable pub charges : Setting → Volume → List ℕ → ℕ → ℕ → Turn → ℕ
charges s vol input k zero t = 0
charges s vol input k (suc n) t =
    let i = current s t in
    let own = (planned s (root_at s vol t) t.progress i (inputs_of i input)).cost in
    let more = own + charges s vol input k n (step s vol input t) in
    pick (ready s k t) more 0

-- of a program with k bytes come, from its opening
abbrev pub charged : Host → Areas → List ℕ → ℕ → ℕ
charged h a all k = charges (setting_of h) (volume_of h a.disk) all k (program_of h).terms.head.count (turn_of h a.stage a.output)

-- ---- contracts

-- the bytes of a contract's committed sectors
unfoldable pub sectors_of : ℕ → List ℕ → Place → List ℕ
sectors_of z disk p = whole z disk [] (committed_spots z p)

-- the contract of that place list that an open program's head names
abbrev pub parent_in : Host → List Place → Place
parent_in h ps = whose (program_of h).terms.head.contract ps

-- a contract's size and root, as a host and the disk have it; z is the host's sector size
abbrev pub pair_in : ℕ → Host → List ℕ → Place → Pair
pair_in z h disk p = pair_of z (root_on_disk (setting_of h) (volume_of h disk)) p

-- the parent as committed, and so as it was when the program was opened: its size and root
abbrev pub starting : Host → Areas → Pair
starting h a = starting_pair (setting_of h) (volume_of h a.disk)

-- the parent as it is read now: its size and root, and its sectors
abbrev pub running : Host → Areas → Pair
running h a =
    let f = root_of (setting_of h) (volume_of h a.disk) a.stage h.stageroots in
    running_pair (setting_of h) f (program_of h).progress

abbrev pub running_sectors : Host → Areas → List ℕ
running_sectors h a = whole h.sector a.disk a.stage (parent_spots (setting_of h) (program_of h).progress)

-- "final size and root equal the starting ones": a matter of the two pairs, not of which instructions ran
abbrev pub Unchanged : Host → Areas → Type 0
Unchanged h a = running h a ≡ starting h a

-- Opening a program, giving it a piece, interrupting it, and what it has reached: what each call answers and leaves. A refusal leaves all
-- as it was, and its other numbers are 0. The sector size is the one that the host holds. A call that needs roots is defined for any way to
-- know them; the call itself takes those that are kept. Assumes nothing.
use Rattle.std.specs.Prelude.{Bool, true, not, List, [], ℕ, ◌+◌, length, leb, ltb, eqb}
use Rattle.lists.specs.Pick.{pick, both, either}
use Rattle.area.specs.Area.{same, put, zeros}
use Rattle.sia.specs.Names.{read_only}
use Rattle.sia.specs.Decode.{decode}
use Rattle.host.specs.Empty.{started}
use Rattle.host.specs.With.{program_of, with_program}
use Rattle.host.specs.Places.{whose}
use Rattle.host.specs.Order.{in_order}
use Rattle.machine_rules.specs.View.{Way, kept, turn_of, with_run, disk_right, areas_right, setting_of, volume_by}
use Rattle.machine_rules.specs.Roots.{root_of}
use Rattle.machine_rules.specs.Record.{starting_pair, running_pair}
use Rattle.machine_rules.specs.Run.{failing, turned, going, run}
use Rattle.sia.specs.declared.Head.{Head}
use Rattle.host.specs.declared.Prices.{Prices}
use Rattle.host.specs.declared.Program.{Program}
use Rattle.host.specs.declared.Host.{Host}
use Rattle.machine_rules.specs.declared.Pair.{Pair}

-- what opening, a piece and an interrupt answer: document 01's number, 0 done, the tally, and the host
pub record Answer : Type 0 where
  pub number : ℕ
  pub tally : ℕ
  pub host : Host

abbrev pub answered : ℕ → ℕ → Host → Answer
answered n tally h = record { number = n; tally = tally; host = h }

-- ---- opening

-- "Opening takes a head, a budget (64-bit), seven prices (16-bit each) and an output length, 72 to 65,536."
unfoldable pub room_right : ℕ → Bool
room_right room = both (leb 72 room) (leb room 65536)

-- the program as it is opened: "Init, is tallied at opening"; "Opening runs nothing."
unfoldable pub begun : Host → Head → ℕ → Prices → ℕ → Program
begun h head budget prices room = record {
  active = true;
  terms = record { head = head; prices = prices; budget = budget; room = room };
  came = 0;
  progress = started prices.init (whose head.contract h.places).size;
}

-- a head with the number that its reader answered: 1, 2, 3, "but opening checks 9 and 10 before 7", 11
unfoldable pub opened_head : Host → ℕ → Head → ℕ → Prices → ℕ → Answer
opened_head h fault head budget prices room =
    pick (not (in_order h)) (answered 1 0 h)
    (pick (not (room_right room)) (answered 2 0 h)
    (pick (program_of h).active (answered 3 0 h)
    (pick (not (eqb fault 0)) (answered fault 0 h)
    (pick (both (not (same head.contract read_only)) (not (whose head.contract h.places).held)) (answered 7 0 h)
    (pick (ltb budget prices.init) (answered 11 0 h)
    (answered 0 prices.init (with_program h (begun h head budget prices room))))))))

-- the head comes in its bytes
unfoldable pub opened : Host → List ℕ → ℕ → Prices → ℕ → Answer
opened h bytes budget prices room = opened_head h (decode bytes).number (decode bytes).head budget prices room

-- ---- calls on the open program

-- "Pieces lend an input area of exactly the declared data length; pieces and interrupts lend an output area of the output length."
unfoldable pub input_right : Host → List ℕ → Bool
input_right h input = eqb (length input) (program_of h).terms.head.length

unfoldable pub output_right : Host → List ℕ → Bool
output_right h output = eqb (length output) (program_of h).terms.room

-- "2 tests input and output areas only if a program is open"
unfoldable pub piece_lent : Host → List ℕ → List ℕ → List ℕ → List ℕ → Bool
piece_lent h disk stage input output =
    both (areas_right h disk stage) (either (not (program_of h).active) (both (input_right h input) (output_right h output)))

unfoldable pub interrupt_lent : Host → List ℕ → List ℕ → Bool
interrupt_lent h disk output = both (disk_right h disk) (either (not (program_of h).active) (output_right h output))

-- 1, 2, 4: why a call on the open program is refused, 0 if it is not; `lent` says whether what it lends is as long as stated
unfoldable pub refusal : Host → Bool → ℕ
refusal h lent = pick (not (in_order h)) 1 (pick (not lent) 2 (pick (not (program_of h).active) 4 0))

-- ---- pieces

-- the number, the tally, the host, and the areas as they are left
pub record Pieced : Type 0 where
  pub number : ℕ
  pub tally : ℕ
  pub host : Host
  pub stage : List ℕ
  pub input : List ℕ
  pub output : List ℕ

abbrev pub pieced : ℕ → ℕ → Host → List ℕ → List ℕ → List ℕ → Pieced
pieced n tally h stage input output = record { number = n; tally = tally; host = h; stage = stage; input = input; output = output }

-- "A piece is copied into the input area after the bytes already come. Then instructions run in turn while their need has come."
unfoldable pub accepted_by : Way → List ℕ → Host → List ℕ → List ℕ → List ℕ → List ℕ → Pieced
accepted_by way disk h stage input output bytes =
    let k = (program_of h).came + length bytes in
    let area = put input (program_of h).came bytes in
    let t = run (setting_of h) (volume_by way h disk) area k (turn_of h stage output) in
    pieced 0 t.progress.tally (with_run h k t.progress t.roots) t.stage area t.output

abbrev pub accepted : List ℕ → Host → List ℕ → List ℕ → List ℕ → List ℕ → Pieced
accepted disk h stage input output bytes = accepted_by kept disk h stage input output bytes

-- 1, 2, 4, 12
unfoldable pub piece_by : Way → List ℕ → Host → List ℕ → List ℕ → List ℕ → List ℕ → Pieced
piece_by way disk h stage input output bytes =
    let done = accepted_by way disk h stage input output bytes in
    let n = refusal h (piece_lent h disk stage input output) in
    pick (not (eqb n 0)) (pieced n 0 h stage input output)
    (pick (ltb (program_of h).terms.head.length ((program_of h).came + length bytes)) (pieced 12 0 h stage input output)
    done)

-- the call
abbrev pub piece : List ℕ → Host → List ℕ → List ℕ → List ℕ → List ℕ → Pieced
piece disk h stage input output bytes = piece_by kept disk h stage input output bytes

-- ---- interrupts

pub record Interrupted : Type 0 where
  pub number : ℕ
  pub tally : ℕ
  pub host : Host
  pub output : List ℕ

abbrev pub interrupted : ℕ → ℕ → Host → List ℕ → Interrupted
interrupted n tally h output = record { number = n; tally = tally; host = h; output = output }

-- "An interrupt writes record 20 .. for the first instruction not run"
unfoldable pub stopped_by : Way → List ℕ → Host → List ℕ → Interrupted
stopped_by way disk h output =
    let start = turn_of h [] output in
    let t = turned start (failing (setting_of h) (volume_by way h disk) 20 start) in
    interrupted 0 t.progress.tally (with_run h (program_of h).came t.progress t.roots) t.output

abbrev pub stopped : List ℕ → Host → List ℕ → Interrupted
stopped disk h output = stopped_by kept disk h output

-- 1, 2, 4; "if the program has ended or failed it answers 0 and changes nothing"
unfoldable pub interrupt_by : Way → List ℕ → Host → List ℕ → Interrupted
interrupt_by way disk h output =
    let done = stopped_by way disk h output in
    let n = refusal h (interrupt_lent h disk output) in
    pick (not (eqb n 0)) (interrupted n 0 h output)
    (pick (going (program_of h).terms (program_of h).progress) done (interrupted 0 (program_of h).progress.tally h output))

-- the call
abbrev pub interrupt : List ℕ → Host → List ℕ → Interrupted
interrupt disk h output = interrupt_by kept disk h output

-- ---- what a program has reached

-- the pair that an agreement would name; after a failure the starting pair
unfoldable pub reached_pair_by : Way → List ℕ → Host → List ℕ → Pair
reached_pair_by way disk h stage =
    let p = (program_of h).progress in
    let s = setting_of h in
    let vol = volume_by way h disk in
    let starting = starting_pair s vol in
    let running = running_pair s (root_of s vol stage h.stageroots) p in
    pick p.failed starting running

abbrev pub reached_pair : List ℕ → Host → List ℕ → Pair
reached_pair disk h stage = reached_pair_by kept disk h stage

-- the number, and the pair
pub record Reached : Type 0 where
  pub number : ℕ
  pub size : ℕ
  pub root : List ℕ

abbrev pub reached_at : ℕ → Pair → Reached
reached_at n pair = record { number = n; size = pair.size; root = pair.root }

unfoldable pub no_pair : Pair
no_pair = record { size = 0; root = zeros 32 }

-- 1, 2, 4; it lends disk and stage
unfoldable pub reached_by : Way → List ℕ → Host → List ℕ → Reached
reached_by way disk h stage =
    let pair = reached_pair_by way disk h stage in
    let n = refusal h (areas_right h disk stage) in
    pick (not (eqb n 0)) (reached_at n no_pair) (reached_at 0 pair)

-- the call
abbrev pub reached : List ℕ → Host → List ℕ → Reached
reached disk h stage = reached_by kept disk h stage

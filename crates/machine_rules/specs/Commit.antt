-- Closing: what it answers and leaves, and the commit. z is the sector size; the calls take the one that the host holds. Assumes nothing.
use Rattle.std.specs.Prelude.{Bool, not, List, [], ◌∷◌, ◌++◌, ℕ, zero, suc, ◌-◌, ◌*◌, ◌/◌, min, length, get_or, ℤ, pos, ◌-ℤ◌, eqb}
use Rattle.lists.specs.Pick.{pick, either}
use Rattle.lists.specs.Tests.{unused}
use Rattle.lists.specs.Lowest.{lowest}
use Rattle.area.specs.Area.{part, put, zeros}
use Rattle.host.specs.Empty.{none, no_program}
use Rattle.host.specs.With.{program_of, with_places, with_program, with_disk_roots, with_size, with_slots}
use Rattle.host.specs.Places.{committed, taken}
use Rattle.host.specs.Calls.{replaced}
use Rattle.machine_rules.specs.View.{Way, kept, parent, areas_right, setting_of, volume_by}
use Rattle.machine_rules.specs.Roots.{root_of}
use Rattle.machine_rules.specs.Record.{pairing, same_pair, starting_pair, running_pair}
use Rattle.machine_rules.specs.Run.{going}
use Rattle.machine_rules.specs.Calls.{refusal}
use Rattle.host.specs.declared.Place.{Place}
use Rattle.host.specs.declared.Program.{Program}
use Rattle.host.specs.declared.Host.{Host}
use Rattle.machine_rules.specs.declared.Pair.{Pair}

-- ---- slots

-- the place with its positions past a size freed
unfoldable pub cut : ℕ → Place → Place
cut size p = with_size p (min p.size size)

-- n new slots, each the lowest that is not used
unfoldable pub new_slots : ℕ → List ℕ → ℕ → List ℕ
new_slots disk used zero = []
new_slots disk used (suc n) = let x = lowest (unused used) 0 disk in x ∷ new_slots disk (x ∷ used) n

-- "positions past the final size free their slots; kept positions keep theirs; new ones, ascending, take the lowest free"
unfoldable pub final_slots : ℕ → ℕ → List Place → Place → ℕ → List ℕ
final_slots z disk ps p size =
    let keep = committed z (cut size p) in
    keep ++ new_slots disk (taken z (replaced p.id (cut size p) ps)) (size / z - length keep)

-- "staged sectors are copied there": of positions i, i + 1, … n of them
unfoldable pub copied_back : ℕ → List ℕ → List ℕ → List ℕ → ℕ → ℕ → List ℕ → List ℕ
copied_back z stage staged slots i zero disk = disk
copied_back z stage staged slots i (suc n) disk =
    copied_back z stage staged slots (suc i) n
    (pick (eqb (get_or staged i none) none) disk (put disk (get_or slots i 0 * z) (part stage (get_or staged i none * z) z)))

-- ---- what closing answers and leaves

-- the number, the tally, the growth ("a signed count of bytes"), the host and the disk
pub record Closed : Type 0 where
  pub number : ℕ
  pub tally : ℕ
  pub growth : ℤ
  pub host : Host
  pub disk : List ℕ

abbrev pub closed : ℕ → ℕ → ℤ → Host → List ℕ → Closed
closed n tally growth h disk = record { number = n; tally = tally; growth = growth; host = h; disk = disk }

-- "Giving up always closes and commits nothing."; "or 0 if nothing was committed"
unfoldable pub given_up : ℕ → List ℕ → Host → Closed
given_up n disk h = closed n (program_of h).progress.tally (pos 0) (with_program h no_program) disk

-- the parent with its final size and slots; zeros in the slots past them
unfoldable pub final_place : Place → ℕ → List ℕ → Place
final_place p size slots = with_slots (with_size p size) (slots ++ zeros (64 - length slots))

-- "final less starting size"; the root kept beside a staged sector goes with its bytes
unfoldable pub commit : List ℕ → Host → List ℕ → Closed
commit disk h stage =
    let p = (program_of h).progress in
    let old = parent (setting_of h) in
    let slots = final_slots h.sector h.disk h.places old p.size in
    let places = replaced (program_of h).terms.head.contract (final_place old p.size slots) h.places in
    let roots = copied_back 32 h.stageroots p.staged slots 0 (p.size / h.sector) h.diskroots in
    closed 0 p.tally (pos p.size -ℤ pos old.size) (with_disk_roots (with_program (with_places h places) no_program) roots)
    (copied_back h.sector stage p.staged slots 0 (p.size / h.sector) disk)

-- "when final size and root equal the starting ones .. closes with 0 whatever pair is given, and nothing is committed"; else "Agreement
-- names final size and root", all 32 bytes; 14: "agreed size or root differs: changes dropped, program closed"
unfoldable pub agreed_by : Way → List ℕ → Host → List ℕ → Pair → Closed
agreed_by way disk h stage named =
    let s = setting_of h in
    let vol = volume_by way h disk in
    let starting = starting_pair s vol in
    let running = running_pair s (root_of s vol stage h.stageroots) (program_of h).progress in
    let done = commit disk h stage in
    pick (same_pair running starting) (given_up 0 disk h)
    (pick (same_pair named running) done
    (given_up 14 disk h))

abbrev pub agreed : List ℕ → Host → List ℕ → Pair → Closed
agreed disk h stage named = agreed_by kept disk h stage named

-- "a program not ended, or failed"
unfoldable pub unfinished : Program → Bool
unfinished g = either g.progress.failed (going g.terms g.progress)

-- "Closing gives up or agrees." 1, 2, 4; 13: "agreement to a program not ended, or failed"
unfoldable pub close_by : Way → List ℕ → Host → List ℕ → Bool → ℕ → List ℕ → Closed
close_by way disk h stage agree size root =
    let done = agreed_by way disk h stage (pairing size root) in
    let n = refusal h (areas_right h disk stage) in
    pick (not (eqb n 0)) (closed n 0 (pos 0) h disk)
    (pick (not agree) (given_up 0 disk h)
    (pick (unfinished (program_of h)) (closed 13 0 (pos 0) h disk)
    done))

-- the call
abbrev pub close : List ℕ → Host → List ℕ → Bool → ℕ → List ℕ → Closed
close disk h stage agree size root = close_by kept disk h stage agree size root

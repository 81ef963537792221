-- Demand 2: "It does what SIP-0001 and document 01 say: each record, root, cost and commit is the defined one, and cost stays within
-- budget." Assumes nothing.
use Rattle.std.specs.Prelude.{◌≡◌, true, false, List, [], ◌∷◌, ◌++◌, ℕ, ◌+◌, ◌≤◌, ◌<◌, length, get_or}
use Rattle.area.specs.Area.{same, part}
use Rattle.area.specs.Little.{le8, Bytes}
use Rattle.sia.specs.Encode.{encode, within}
use Rattle.sia.specs.Decode.{decode, told}
use Rattle.sia.specs.Trim.{trimmed, Proper}
use Rattle.host.specs.With.{program_of}
use Rattle.machine_rules.specs.View.{Turn, Volume}
use Rattle.machine_rules.specs.declared.Setting.{Setting}
use Rattle.machine_rules.specs.Seats.{first_seat}
use Rattle.machine_rules.specs.Record.{pairing}
use Rattle.machine_rules.specs.Run.{going}
use Rattle.machine_rules.specs.Calls.{Pieced}
use Rattle.machine_rules.specs.Visit.{Areas, Opening, Agreement, named, opens, reaches, closes, Declared, Finished, Visit}
use Rattle.machine_rules.specs.Trace.{together, visited, left_by, closes_after, first_records, last_of, charged}
use Rattle.machine_rules.specs.Trace.{parent_in, pair_in, starting, running, Unchanged}
use Rattle.machine_rules.specs.Outcome.{Instructed, Untouched, Dropped, Committed}
use Rattle.sia.specs.declared.Head.{Head}
use Rattle.sia.specs.declared.Instruction.{Instruction}
use Rattle.host.specs.declared.Host.{Host}
use Rattle.machine_rules.specs.declared.Spot.{Spot}
use Rattle.machine_rules.specs.declared.Seat.{Seat}
use Rattle.std.specs.Prelude.{Some}

-- after pieces that are the front of the data: h is the host that the opening left, w what the pieces leave, k how many bytes have come
pub record Ran (h : Host) (o : Opening) (a : Areas) (all : List ℕ) (k : ℕ) (w : Pieced) : Type 0 where
  -- "equal to the definition's summed instruction costs and never above the given budget"; "Init, is tallied at opening"
  pub tally : w.tally ≡ o.prices.init + charged h a all k
  pub within : w.tally ≤ o.budget
  -- if the program has not failed, its last record shows, behind number and cost, the running pair, which an agreement names
  pub shows : 0 < length (first_records h a all k) → (program_of w.host).progress.failed ≡ false
      → let pair = running w.host (left_by a w) in part (last_of [] (first_records h a all k)) 16 40 ≡ le8 pair.size ++ pair.root

-- the call `reached` tells the running pair of a program that has not failed
abbrev pub Tells : Host → Areas → Type 0
Tells h a = let r = reaches h a in
    r.number ≡ 0 → (program_of h).progress.failed ≡ false → pairing r.size r.root ≡ running h a

-- an agreement that a host answers
pub record Agreed (h : Host) (a : Areas) (g : Agreement) : Type 0 where
  -- answered with 0, the program had ended and not failed
  pub finished : (closes h a g).number ≡ 0 → Finished h a
  -- and then either the running pair is the starting pair, and nothing is committed
  pub drops : (closes h a g).number ≡ 0 → Unchanged h a → Dropped a h (closes h a g)
  -- or the agreement names the running pair, all 32 bytes of the root, and that is committed
  pub pair : (closes h a g).number ≡ 0 → (Unchanged h a → ⊥) → named g ≡ running h a
  pub commits : Declared h → (closes h a g).number ≡ 0 → (Unchanged h a → ⊥) → Committed h a (closes h a g)
  -- either way the parent's size and root are then the running pair
  pub stands : Declared h → (closes h a g).number ≡ 0
      → pair_in h.sector (closes h a g).host (closes h a g).disk (parent_in h (closes h a g).host.places) ≡ running h a
  -- one that names the running pair, of a program that has ended and not failed, is answered with 0
  pub done : Finished h a → named g ≡ running h a → (closes h a g).number ≡ 0

-- a program opened on h, given pieces that leave w, and closed: it commits, or leaves what stood before it was opened
pub record Closes (h : Host) (a : Areas) (w : Pieced) (g : Agreement) : Type 0 where
  -- its starting pair is that of the parent before it was opened
  pub starts : starting w.host (left_by a w) ≡ pair_in h.sector h a.disk (parent_in w.host h.places)
  pub all : (closes_after a w g).number ≡ 0 → g.agree ≡ true → (Unchanged w.host (left_by a w) → ⊥)
      → Committed w.host (left_by a w) (closes_after a w g)
  pub unchanged : Unchanged w.host (left_by a w) → Untouched a h (closes_after a w g)
  pub nothing : ((closes_after a w g).number ≡ 0 → g.agree ≡ true → ⊥) → Untouched a h (closes_after a w g)
  pub failed : (program_of w.host).progress.failed ≡ true → Untouched a h (closes_after a w g)
  pub unended : going (program_of w.host).terms (program_of w.host).progress ≡ true → Untouched a h (closes_after a w g)

pub record Demand2 : Type 0 where
  pub instructions : (s : Setting) (vol : Volume) (i : Instruction) (l : List (List ℕ)) (t : Turn) → Instructed s vol i l t
  pub visits : (h : Host) (o : Opening) (a : Areas) (all : List ℕ) → Visit h o a all
      → (b : List ℕ) (bs : List (List ℕ)) (rest : List ℕ) → together (b ∷ bs) ++ rest ≡ all
      → Ran (opens h o).host o a all (length (together (b ∷ bs))) (visited h o a (b ∷ bs))
  pub tells : (h : Host) (a : Areas) → Tells h a
  pub agreements : (h : Host) (a : Areas) (g : Agreement) → g.agree ≡ true → Agreed h a g
  -- whatever pieces, accepted or not
  pub closings : (h : Host) (o : Opening) (a : Areas) (bs : List (List ℕ)) (g : Agreement) → Declared h
      → Closes h a (visited h o a bs) g
  -- "writing what was read gives the same bytes back, and the reverse"
  pub read : (bytes : List ℕ) → Bytes bytes → (d : Head) → decode bytes ≡ told 0 d → encode d ≡ bytes
  pub written : (d : Head) → Proper d → within d ≡ true → decode (encode d) ≡ told 0 (trimmed d)
  -- "Contract ids and sector roots are compared on all 32 bytes."
  pub ids : (one two : List ℕ) → same one two ≡ true → one ≡ two
  pub equals : (one two : List ℕ) → length one ≡ 32 → length two ≡ 32 → ((i : ℕ) → i < 32 → get_or one i 0 ≡ get_or two i 0)
      → same one two ≡ true
  pub roots : (f : Spot → List ℕ) (key : List ℕ) (l : List Seat) (x : Seat) → first_seat f key l ≡ Some x → f x.spot ≡ key

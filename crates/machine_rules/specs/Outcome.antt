-- What a call leaves, as facts with names that the demands speak of. Assumes nothing.
use Rattle.std.specs.Prelude.{◌≡◌, Bool, true, false, not, List, [], ℕ, ◌+◌, ◌*◌, ◌/◌, ◌≤◌, ◌<◌, length, get_or, eqb, pos, ◌-ℤ◌}
use Rattle.lists.specs.Pick.{pick}
use Rattle.lists.specs.Tests.{some, those}
use Rattle.area.specs.Area.{same, part, put}
use Rattle.area.specs.Little.{Bytes}
use Rattle.tree.specs.Tree.{root}
use Rattle.sia.specs.Names.{op_of}
use Rattle.host.specs.With.{with_written, with_failed, program_of}
use Rattle.host.specs.Empty.{none, no_program}
use Rattle.host.specs.Places.{whose}
use Rattle.host.specs.Calls.{formed, dropped}
use Rattle.machine_rules.specs.View.{Turn, Volume}
use Rattle.machine_rules.specs.declared.Setting.{Setting}
use Rattle.machine_rules.specs.Roots.{root_at}
use Rattle.machine_rules.specs.Inputs.{args_of}
use Rattle.machine_rules.specs.Plan.{cost, touched, judged}
use Rattle.machine_rules.specs.Record.{failure_bytes}
use Rattle.machine_rules.specs.Run.{Stepped, stepped, turned, run}
use Rattle.machine_rules.specs.Commit.{Closed}
use Rattle.machine_rules.specs.Class.{is_known, class_of}
use Rattle.machine_rules.specs.Visit.{Areas, Opening, Agreement, opens, gives, stops, reaches, closes, Ready}
use Rattle.machine_rules.specs.Trace.{sectors_of, parent_in, pair_in, running, running_sectors}
use Rattle.sia.specs.declared.Instruction.{Instruction}
use Rattle.host.specs.declared.Host.{Host}

-- every call answers 1
pub record Refused (h : Host) (a : Areas) : Type 0 where
  pub forming : (id : List ℕ) → (formed h id).number ≡ 1
  pub dropping : (id : List ℕ) → (dropped h id).number ≡ 1
  pub opening : (o : Opening) → (opens h o).number ≡ 1
  pub piece : (bytes : List ℕ) → (gives h a bytes).number ≡ 1
  pub interrupt : (stops h a).number ≡ 1
  pub reached : (reaches h a).number ≡ 1
  pub closing : (g : Agreement) → (closes h a g).number ≡ 1

-- a host in order stays in order, its arrays as declared, whatever the call; the bytes of a head are bytes
pub record Kept (h : Host) (a : Areas) : Type 0 where
  pub forming : (id : List ℕ) → Ready (formed h id).host
  pub dropping : (id : List ℕ) → Ready (dropped h id).host
  pub opening : (o : Opening) → Bytes o.bytes → Ready (opens h o).host
  pub piece : (bytes : List ℕ) → Ready (gives h a bytes).host
  pub interrupt : Ready (stops h a).host
  pub closing : (g : Agreement) → Ready (closes h a g).host

-- "A failure ends the program and otherwise only writes its record.": its number, cost 0, the starting pair, both counts 0
pub record Failed (s : Setting) (vol : Volume) (number : ℕ) (t : Turn) (after : Stepped) : Type 0 where
  pub progress : after.progress ≡ with_failed (with_written t.progress (t.progress.written + 72)) true
  pub stage : after.stage ≡ t.stage
  pub roots : after.roots ≡ t.roots
  pub bytes : after.bytes ≡ failure_bytes s vol number

-- whether an instruction writes to a position
abbrev pub writes_to : Setting → Instruction → List (List ℕ) → Turn → ℕ → Bool
writes_to s i l t at = let op = op_of i.name in some (eqb at) (touched s.sector t.progress.size op (args_of op l))

-- one instruction
pub record Instructed (s : Setting) (vol : Volume) (i : Instruction) (l : List (List ℕ)) (t : Turn) : Type 0 where
  -- "each record": from the first free byte of the output area
  pub writes : (turned t (stepped s vol i l t)).output ≡ put t.output t.progress.written (stepped s vol i l t).bytes
  -- its number is one of document 01's table, and so has a class
  pub classed : is_known (class_of (judged s (root_at s vol t) t.progress i l)) ≡ true
  pub fails : (judged s (root_at s vol t) t.progress i l ≡ 0 → ⊥)
      → Failed s vol (judged s (root_at s vol t) t.progress i l) t (stepped s vol i l t)
  -- "A failure ends the program": nothing runs after it
  pub ends : (input : List ℕ) (k : ℕ) → t.progress.failed ≡ true → run s vol input k t ≡ t
  pub costs : judged s (root_at s vol t) t.progress i l ≡ 0 → (stepped s vol i l t).progress.tally
      ≡ t.progress.tally + cost s.terms.head.length s.terms.prices (op_of i.name) (args_of (op_of i.name) l).len
  -- "rebuild only what an instruction touched": beside the stage slot of a position that it writes, the root of the sector's bytes after it
  pub rehashes : judged s (root_at s vol t) t.progress i l ≡ 0 → (at : ℕ) → writes_to s i l t at ≡ true
      → let after = stepped s vol i l t in let n = get_or after.progress.staged at none in
      n * 32 + 32 ≤ length t.roots → part after.roots (n * 32) 32 ≡ root (part after.stage (n * s.sector) s.sector)
  -- and no other root changes
  pub stays : (n : ℕ) → let after = stepped s vol i l t in
      ((at : ℕ) → writes_to s i l t at ≡ true → get_or after.progress.staged at none ≡ n → ⊥)
      → part after.roots (n * 32) 32 ≡ part t.roots (n * 32) 32

-- a call leaves the contracts as they were: their places, and the roots kept beside the disk's slots
pub record Standing (h after : Host) : Type 0 where
  pub places : after.places ≡ h.places
  pub roots : after.diskroots ≡ h.diskroots

-- a close leaves the disk's bytes, the contracts and the roots kept beside the disk's slots as they were, and so the size, the sectors and
-- the root of each contract
pub record Untouched (a : Areas) (h : Host) (after : Closed) : Type 0 where
  pub bytes : after.disk ≡ a.disk
  pub places : after.host.places ≡ h.places
  pub roots : after.host.diskroots ≡ h.diskroots

-- the stage slots that a host has taken: those of the staged positions of an open program
unfoldable pub stage_taken : Host → List ℕ
stage_taken h =
    let staged = those (λ n. not (eqb n none)) (program_of h).progress.staged in
    pick (program_of h).active staged []

-- no program is open, its fields are zeros again, and no stage slot is taken
pub record Shut (h : Host) : Type 0 where
  pub program : program_of h ≡ no_program
  pub active : (program_of h).active ≡ false
  pub slots : stage_taken h ≡ []

-- a close commits nothing: disk and contracts as they were, no stage slot taken any more; the tally, and growth 0
pub record Dropped (a : Areas) (h : Host) (after : Closed) : Type 0 where
  pub untouched : Untouched a h after
  pub shut : Shut after.host
  pub tally : after.tally ≡ (program_of h).progress.tally
  pub growth : after.growth ≡ pos 0

-- a close commits: the parent has the size, root and bytes that it was read with; every other contract is as it was, and so is each slot
-- into which no staged position goes ("No other byte changes."), its bytes and the root kept beside it; the roots kept beside the stage's
-- slots stay; the tally, and the growth, "final less starting size"
pub record Committed (h : Host) (a : Areas) (after : Closed) : Type 0 where
  pub parent : pair_in h.sector after.host after.disk (parent_in h after.host.places) ≡ running h a
  pub sectors : sectors_of h.sector after.disk (parent_in h after.host.places) ≡ running_sectors h a
  pub others : (id : List ℕ) → same (program_of h).terms.head.contract id ≡ false
      → (whose id after.host.places ≡ whose id h.places)
      × ((sectors_of h.sector after.disk (whose id h.places) ≡ sectors_of h.sector a.disk (whose id h.places))
      × (pair_in h.sector after.host after.disk (whose id h.places) ≡ pair_in h.sector h a.disk (whose id h.places)))
  pub slots : (n : ℕ)
      → ((at : ℕ) → at < (program_of h).progress.size / h.sector → eqb (get_or (program_of h).progress.staged at none) none ≡ false
      → get_or (parent_in h after.host.places).slots at 0 ≡ n → ⊥)
      → (part after.disk (n * h.sector) h.sector ≡ part a.disk (n * h.sector) h.sector)
      × (part after.host.diskroots (n * 32) 32 ≡ part h.diskroots (n * 32) 32)
  pub stage : after.host.stageroots ≡ h.stageroots
  pub long : length after.disk ≡ length a.disk
  pub tally : after.tally ≡ (program_of h).progress.tally
  pub growth : after.growth ≡ pos (program_of h).progress.size -ℤ pos (parent_in h h.places).size

-- "Host in order" as facts with names, which proofs use. z is the sector size. Assumes nothing.
use Rattle.std.specs.Prelude.{◌≡◌, true, not, List, ℕ, ◌+◌, ◌*◌, ◌/◌, ◌%◌, ◌≤◌, take, drop, ltb, eqb}
use Rattle.lists.specs.Pick.{pick}
use Rattle.lists.specs.Tests.{every, apart}
use Rattle.area.specs.Slots.{Size}
use Rattle.sia.specs.Encode.{within}
use Rattle.host.specs.Empty.{none}
use Rattle.host.specs.Places.{whose, others, taken}
use Rattle.host.specs.Order.{place_in_order, twins, slot_in_order, clash, parent_in_order}
use Rattle.host.specs.declared.Place.{Place}
use Rattle.host.specs.declared.Terms.{Terms}
use Rattle.host.specs.declared.Progress.{Progress}
use Rattle.host.specs.declared.Program.{Program}
use Rattle.host.specs.declared.Host.{Host}

-- contracts
pub record Contracts (z disk : ℕ) (ps : List Place) : Type 0 where
  pub each : every (place_in_order z) ps ≡ true
  pub differ : apart twins ps ≡ true
  pub own : apart eqb (taken z ps) ≡ true
  pub below : every (λ n. ltb n disk) (taken z ps) ≡ true

-- staged positions
pub record Staged (stage start size : ℕ) (staged : List ℕ) : Type 0 where
  pub slots : every (slot_in_order stage) staged ≡ true
  pub own : apart clash staged ≡ true
  pub below : every (λ n. eqb n none) (drop size staged) ≡ true
  pub past : every (λ n. not (eqb n none)) (drop start (take size staged)) ≡ true

-- what opening fixes, and the running size in read-only mode
pub record Agreed (ps : List Place) (t : Terms) (size : ℕ) : Type 0 where
  pub parent : parent_in_order ps t.head.contract size ≡ true
  pub head : within t.head ≡ true
  pub least : 72 ≤ t.room
  pub most : t.room ≤ 65536

-- what instructions change
pub record Orderly (z disk stage : ℕ) (ps : List Place) (t : Terms) (p : Progress) : Type 0 where
  pub ran : p.ran ≤ t.head.count
  pub paid : p.tally ≤ t.budget
  pub fits : p.written + pick p.failed 0 72 ≤ t.room
  pub whole : p.size % z ≡ 0
  pub within : p.size + others t.head.contract ps ≤ disk * z
  pub staged : Staged stage ((whose t.head.contract ps).size / z) (p.size / z) p.staged

-- an open program
pub record Running (z disk stage : ℕ) (ps : List Place) (g : Program) : Type 0 where
  pub terms : Agreed ps g.terms g.progress.size
  pub came : g.came ≤ g.terms.head.length
  pub progress : Orderly z disk stage ps g.terms g.progress

-- a host in order
pub record Order (h : Host) : Type 0 where
  pub size : Size h.sector
  pub disk_least : 1 ≤ h.disk
  pub disk_most : h.disk ≤ 64
  pub stage_least : 1 ≤ h.stage
  pub stage_most : h.stage ≤ 16
  pub contracts : Contracts h.sector h.disk h.places
  pub running : h.program.active ≡ true → Running h.sector h.disk h.stage h.places h.program

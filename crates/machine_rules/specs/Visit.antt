-- What a caller lends and says, and the calls with it; hosts that code can hold; and the visits that the demands speak of. Assumes
-- nothing.
use Rattle.std.specs.Prelude.{◌≡◌, Bool, true, false, List, [], ◌∷◌, ℕ, length}
use Rattle.area.specs.Little.{Bytes}
use Rattle.sia.specs.Decode.{decode}
use Rattle.host.specs.With.{program_of}
use Rattle.host.specs.Order.{in_order}
use Rattle.machine_rules.specs.View.{Way, areas_right}
use Rattle.machine_rules.specs.Record.{pairing}
use Rattle.machine_rules.specs.Run.{going}
use Rattle.machine_rules.specs.Calls.{opened, Pieced, piece_by, piece, Interrupted, interrupt_by, interrupt, reached_by, reached}
use Rattle.machine_rules.specs.Commit.{Closed, close_by, close}
use Rattle.machine_rules.specs.Sound.{sound}
use Rattle.host.specs.declared.Place.{Place}
use Rattle.host.specs.declared.Prices.{Prices}
use Rattle.host.specs.declared.Host.{Host}
use Rattle.machine_rules.specs.Calls.{Answer}
use Rattle.machine_rules.specs.declared.Pair.{Pair}
use Rattle.machine_rules.specs.Calls.{Reached}

-- ---- what is lent and said

-- the four areas
pub record Areas : Type 0 where
  pub disk : List ℕ
  pub stage : List ℕ
  pub input : List ℕ
  pub output : List ℕ

-- "Opening takes a head, a budget (64-bit), seven prices (16-bit each) and an output length": the head in its bytes
pub record Opening : Type 0 where
  pub bytes : List ℕ
  pub budget : ℕ
  pub prices : Prices
  pub room : ℕ

-- "Closing gives up or agrees."
pub record Agreement : Type 0 where
  pub agree : Bool
  pub size : ℕ
  pub root : List ℕ

-- the pair that it names
abbrev pub named : Agreement → Pair
named g = pairing g.size g.root

-- ---- the calls with these

abbrev pub opens : Host → Opening → Answer
opens h o = opened h o.bytes o.budget o.prices o.room

abbrev pub gives : Host → Areas → List ℕ → Pieced
gives h a bytes = piece a.disk h a.stage a.input a.output bytes

abbrev pub stops : Host → Areas → Interrupted
stops h a = interrupt a.disk h a.output

abbrev pub reaches : Host → Areas → Reached
reaches h a = reached a.disk h a.stage

abbrev pub closes : Host → Areas → Agreement → Closed
closes h a g = close a.disk h a.stage g.agree g.size g.root

-- ---- the calls with roots known in a way: `kept` is the calls above, `worked` is document 01

abbrev pub gives_by : Way → Host → Areas → List ℕ → Pieced
gives_by way h a bytes = piece_by way a.disk h a.stage a.input a.output bytes

abbrev pub stops_by : Way → Host → Areas → Interrupted
stops_by way h a = interrupt_by way a.disk h a.output

abbrev pub reaches_by : Way → Host → Areas → Reached
reaches_by way h a = reached_by way a.disk h a.stage

abbrev pub closes_by : Way → Host → Areas → Agreement → Closed
closes_by way h a g = close_by way a.disk h a.stage g.agree g.size g.root

-- ---- hosts that code can hold

-- the slots of each place are an array of 64
abbrev pub Shaped : List Place → Type 0
Shaped [] = Unit {0}
Shaped (p ∷ ps) = (length p.slots ≡ 64) × Shaped ps

-- a host whose arrays are as declared
pub record Declared (h : Host) : Type 0 where
  pub places : Shaped h.places
  pub staged : length (program_of h).progress.staged ≡ 64
  pub disk : length h.diskroots ≡ 2048
  pub stage : length h.stageroots ≡ 512

-- a host that can be called: in order, its arrays as declared
pub record Ready (h : Host) : Type 0 where
  pub order : in_order h ≡ true
  pub declared : Declared h

-- "a host is sound when it is in order and each kept root is its sector's": with the areas that are lent; its arrays as declared
pub record Sound (h : Host) (disk stage : List ℕ) : Type 0 where
  pub declared : Declared h
  pub right : sound disk h stage ≡ true

-- a host with a program that an agreement can close, and its areas: in order, the lengths right, a program open that has ended and not failed
pub record Finished (h : Host) (a : Areas) : Type 0 where
  pub order : in_order h ≡ true
  pub areas : areas_right h a.disk a.stage ≡ true
  pub live : (program_of h).active ≡ true
  pub good : (program_of h).progress.failed ≡ false
  pub ended : going (program_of h).terms (program_of h).progress ≡ false

-- ---- visits

-- "Take any host in order, any head it opens and data of the declared length": a host that is not in order opens none
pub record Visit (h : Host) (o : Opening) (a : Areas) (all : List ℕ) : Type 0 where
  pub declared : Declared h
  pub head : Bytes o.bytes
  pub opening : (opens h o).number ≡ 0
  pub areas : areas_right h a.disk a.stage ≡ true
  pub input : length a.input ≡ (decode o.bytes).head.length
  pub output : length a.output ≡ o.room
  pub long : length all ≡ (decode o.bytes).head.length

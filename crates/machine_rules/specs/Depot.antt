-- A host with the disk and the stage that are "lent back as left", and any calls on them in turn, the other areas as the caller likes. The calls
-- are those of a way to know roots. Assumes nothing.
use Rattle.std.specs.Prelude.{List, [], ◌∷◌, ℕ}
use Rattle.area.specs.Little.{Bytes}
use Rattle.host.specs.Calls.{formed, dropped}
use Rattle.machine_rules.specs.View.{Way}
use Rattle.machine_rules.specs.Seats.{located_by}
use Rattle.machine_rules.specs.Calls.{Pieced, Interrupted}
use Rattle.machine_rules.specs.Commit.{Closed}
use Rattle.machine_rules.specs.Visit.{Areas, Opening, Agreement, opens, gives_by, stops_by, reaches_by, closes_by}
use Rattle.host.specs.Calls.{Made}
use Rattle.host.specs.declared.Host.{Host}
use Rattle.machine_rules.specs.Calls.{Answer}
use Rattle.machine_rules.specs.Calls.{Reached}
use Rattle.machine_rules.specs.Seats.{Located}

pub record Depot : Type 0 where
  pub host : Host
  pub disk : List ℕ
  pub stage : List ℕ

abbrev pub depot : Host → List ℕ → List ℕ → Depot
depot h disk stage = record { host = h; disk = disk; stage = stage }

-- a call: an id, an opening, an input and an output area with a piece, an output area, a root, an agreement
pub data Call : Type 0 where
  forming : List ℕ → Call
  dropping : List ℕ → Call
  opening : Opening → Call
  piecing : List ℕ → List ℕ → List ℕ → Call
  interrupting : List ℕ → Call
  reaching : Call
  locating : List ℕ → Call
  closing : Agreement → Call

-- the bytes of a head are bytes
abbrev pub Said : Call → Type 0
Said (forming id) = Unit {0}
Said (dropping id) = Unit {0}
Said (opening o) = Bytes o.bytes
Said (piecing input output bytes) = Unit {0}
Said (interrupting output) = Unit {0}
Said reaching = Unit {0}
Said (locating key) = Unit {0}
Said (closing g) = Unit {0}

abbrev pub AllSaid : List Call → Type 0
AllSaid [] = Unit {0}
AllSaid (c ∷ l) = Said c × AllSaid l

-- all that it answers and leaves
pub data Result : Type 0 where
  of_contract : Made → Result
  of_opening : Answer → Result
  of_piece : Pieced → Result
  of_interrupt : Interrupted → Result
  of_reached : Reached → Result
  of_located : Located → Result
  of_closing : Closed → Result

-- the areas with the caller's
abbrev pub lending : Depot → List ℕ → List ℕ → Areas
lending d input output = record { disk = d.disk; stage = d.stage; input = input; output = output }

unfoldable pub result_by : Way → Depot → Call → Result
result_by way d (forming id) = of_contract (formed d.host id)
result_by way d (dropping id) = of_contract (dropped d.host id)
result_by way d (opening o) = of_opening (opens d.host o)
result_by way d (piecing input output bytes) = of_piece (gives_by way d.host (lending d input output) bytes)
result_by way d (interrupting output) = of_interrupt (stops_by way d.host (lending d [] output))
result_by way d reaching = of_reached (reaches_by way d.host (lending d [] []))
result_by way d (locating key) = of_located (located_by way d.disk d.host d.stage key)
result_by way d (closing g) = of_closing (closes_by way d.host (lending d [] []) g)

-- what stands after it
unfoldable pub left : Depot → Result → Depot
left d (of_contract r) = depot r.host d.disk d.stage
left d (of_opening r) = depot r.host d.disk d.stage
left d (of_piece r) = depot r.host d.disk r.stage
left d (of_interrupt r) = depot r.host d.disk d.stage
left d (of_reached r) = d
left d (of_located r) = d
left d (of_closing r) = depot r.host r.disk d.stage

-- what calls in turn answer and leave, and what stands at the end
unfoldable pub results_by : Way → Depot → List Call → List Result
results_by way d [] = []
results_by way d (c ∷ l) = let r = result_by way d c in r ∷ results_by way (left d r) l

unfoldable pub end_by : Way → Depot → List Call → Depot
end_by way d [] = d
end_by way d (c ∷ l) = end_by way (left d (result_by way d c)) l

-- The arrays of a host that code is given are as long as declared: what a function is told of a parameter, as rules' `Declared`. Assumes nothing.
use Rattle.lists.proofs.Kit.{List, [], ◌∷◌}
use mir.Val.{Val}
use denote.Laws.{Is}
use denote.Array.{each}
use denote.Shadow.{shadow}
use denote.Struct.Declared.{row}
use Rattle.host.specs.declared.Place.{Place}
use Rattle.host.specs.declared.Host.{Host}
use Rattle.host.specs.contracts.Host as host
use Rattle.host.specs.contracts.Place as place
use Rattle.host.proofs.Laws.Lengths.{placed, hosted, disk-rooted, stage-rooted}
use Rattle.machine_rules.specs.Visit.{Shaped, Declared}

-- the places of a host, which are a field of it
field-placed : (ps : List Place) (us : List Val)
    → shadow (each (place.the_row).Denot (place.the_row).own_val ps us) → Shaped ps
field-placed [] us g = tt
field-placed (p ∷ ps) [] g = absurd g
field-placed (p ∷ ps) (u ∷ us) g = (placed p (u ∷ []) g.0, field-placed ps us g.1)

-- a host
pub sounds : (h : Host) (vs : List Val) → Is (row host.the_type) h vs → Declared h
sounds h vs g = record {
  places = let a = g.1.1.1.1.1.0 in field-placed h.places a.0 a.1.1;
  staged = hosted h vs g;
  disk = disk-rooted h vs g;
  stage = stage-rooted h vs g;
}

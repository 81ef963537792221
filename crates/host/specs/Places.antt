-- Contracts by id, their sizes, the slots that they take and the lowest free one of the stage. z is the sector size. Assumes nothing.
use Rattle.std.specs.Prelude.{Bool, not, List, [], ◌∷◌, ℕ, ◌/◌, take}
use Rattle.lists.specs.Pick.{pick, both}
use Rattle.lists.specs.Tests.{each, sum, unused}
use Rattle.lists.specs.Lowest.{lowest}
use Rattle.area.specs.Area.{same}
use Rattle.sia.specs.Encode.{joined}
use Rattle.host.specs.Empty.{no_place}
use Rattle.host.specs.declared.Place.{Place}

-- ---- contracts by id

-- a contract of that id: all 32 bytes
unfoldable pub has_id : List ℕ → Place → Bool
has_id id p = both p.held (same p.id id)

-- the contract of that id; no contract where there is none
unfoldable pub whose : List ℕ → List Place → Place
whose id [] = no_place
whose id (p ∷ ps) = let rest = whose id ps in pick (has_id id p) p rest

-- ---- sizes

-- what a place adds to the sizes of all contracts but that of the id
unfoldable pub own_size : List ℕ → Place → ℕ
own_size id p = pick (both p.held (not (same p.id id))) p.size 0

-- "the other sizes": of all contracts but that of the id
unfoldable pub others : List ℕ → List Place → ℕ
others id ps = sum (each (own_size id) ps)

-- ---- slots

-- the disk slots of the committed positions of a place
unfoldable pub committed : ℕ → Place → List ℕ
committed z p = pick p.held (take (p.size / z) p.slots) []

-- the disk slots of all committed positions
unfoldable pub taken : ℕ → List Place → List ℕ
taken z ps = joined (committed z) ps

-- "Every choice of slot, disk or stage, is the lowest free one." The stage's; the number of all where none is free
unfoldable pub free_copy : ℕ → List ℕ → ℕ
free_copy stage staged = lowest (unused staged) 0 stage

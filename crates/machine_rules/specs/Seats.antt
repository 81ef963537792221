-- The look-up by root, of ReadSector and of the call `locate`: "search the parent's current sectors first, stage copies included, by position,
-- then committed sectors of the other contracts as today". z is the sector size; f reads roots. Assumes nothing.
use Rattle.std.specs.Prelude.{Bool, true, false, not, List, [], ◌∷◌, ◌++◌, ℕ, suc}
use Rattle.lists.specs.Pick.{pick}
use Rattle.lists.specs.Tests.{first_of}
use Rattle.area.specs.Area.{same}
use Rattle.host.specs.With.{program_of}
use Rattle.host.specs.Places.{has_id}
use Rattle.host.specs.Order.{in_order}
use Rattle.machine_rules.specs.View.{Way, kept, read_only_mode, parent_spots, committed_spots, setting_of, volume_by}
use Rattle.machine_rules.specs.declared.Setting.{Setting}
use Rattle.machine_rules.specs.Roots.{root_of}
use Rattle.host.specs.declared.Place.{Place}
use Rattle.host.specs.declared.Progress.{Progress}
use Rattle.host.specs.declared.Host.{Host}
use Rattle.machine_rules.specs.declared.Spot.{Spot}
use Rattle.machine_rules.specs.declared.Spot.TheVariants.{OnDisk, InStage}
use Rattle.machine_rules.specs.declared.Seat.{Seat}
use Rattle.std.specs.Prelude.{Option, Some, None}

-- ---- the sectors that are searched, in their order

-- sectors of one place, by position, from position `at` on
unfoldable pub seated : ℕ → ℕ → List Spot → List Seat
seated i at [] = []
seated i at (x ∷ xs) = record { place = i; position = at; spot = x } ∷ seated i (suc at) xs

-- committed sectors "by contract place, then position", from place i on; none of a place that is left out
unfoldable pub committed_seats : ℕ → (Place → Bool) → ℕ → List Place → List Seat
committed_seats z out i [] = []
committed_seats z out i (p ∷ ps) = pick (out p) [] (seated i 0 (committed_spots z p)) ++ committed_seats z out (suc i) ps

-- the sectors `own` of the place that is `mine`, then the committed ones of all others
unfoldable pub seats : ℕ → (Place → Bool) → List Spot → List Place → List Seat
seats z mine own ps = seated (first_of mine ps) 0 own ++ committed_seats z mine 0 ps

-- no contract is the parent: all committed sectors
unfoldable pub nobody : Place → Bool
nobody p = false

abbrev pub all_seats : ℕ → List Place → List Seat
all_seats z ps = seats z nobody [] ps

-- of a program: the parent's as they are now, then the others'; "In read-only mode nothing changes."
unfoldable pub seats_of : Setting → Progress → List Seat
seats_of s p =
    let all = all_seats s.sector s.places in
    pick (read_only_mode s.terms) all (seats s.sector (has_id s.terms.head.contract) (parent_spots s p) s.places)

-- ---- the look-up

-- "a root is found at the first match", all 32 bytes
unfoldable pub first_seat : (Spot → List ℕ) → List ℕ → List Seat → Option Seat
first_seat f key [] = None
first_seat f key (x ∷ xs) =
    let rest = first_seat f key xs in
    pick (same (f x.spot) key) (Some x) rest

-- ---- the call `locate`

-- "a program need not be open (then all committed sectors ..)"
unfoldable pub seats_in : Host → List Seat
seats_in h =
    let now = seats_of (setting_of h) (program_of h).progress in
    pick (program_of h).active now (all_seats h.sector h.places)

-- "whether the stage held it"
unfoldable pub is_staged : Spot → Bool
is_staged (OnDisk n) = false
is_staged (InStage n) = true

-- what it answers: document 01's number, whether a sector with that root is found, the place of its contract, its position there, and whether the
-- stage holds it
pub record Located : Type 0 where
  pub number : ℕ
  pub found : Bool
  pub place : ℕ
  pub position : ℕ
  pub staged : Bool

abbrev pub not_located : ℕ → Located
not_located n = record { number = n; found = false; place = 0; position = 0; staged = false }

-- "It also answers the contract place and position, and whether the stage held it."
unfoldable pub located_at : Option Seat → Located
located_at (Some x) = record { number = 0; found = true; place = x.place; position = x.position; staged = is_staged x.spot }
located_at None = not_located 0

-- 1; else 0 and what is found. With roots known in a way
unfoldable pub located_by : Way → List ℕ → Host → List ℕ → List ℕ → Located
located_by way disk h stage key =
    let f = root_of (setting_of h) (volume_by way h disk) stage h.stageroots in
    pick (not (in_order h)) (not_located 1) (located_at (first_seat f key (seats_in h)))

-- the call: by the kept roots, so that no area is lent
abbrev pub located : Host → List ℕ → Located
located h key = located_by kept [] h [] key

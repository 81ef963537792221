-- What the functions that look a root up ask of their callers. z is the sector size. Assumes nothing.
use Rattle.std.specs.Prelude.{◌≡◌, true, List, ℕ, ◌/◌, ◌≤◌, ◌<◌}
use Rattle.lists.specs.Tests.{every}
use Rattle.lists.specs.Tab.{tab}
use Rattle.area.specs.Slots.{Size}
use Rattle.host.specs.Places.{whose, committed, taken}
use Rattle.host.specs.Order.{place_in_order}
use Rattle.machine_rules.specs.View.{spot_of}
use Rattle.machine_sight.specs.Seen.{holds, lies}
use Rattle.host.specs.declared.Place.{Place}
use Rattle.machine_rules.specs.declared.Spot.{Spot}
use Rattle.machine_rules.specs.declared.Spot.TheVariants.{OnDisk, InStage}

-- a slot whose number a byte holds, and that is not the number for none
abbrev pub Narrow : Spot → Type 0
Narrow (OnDisk n) = n < 256
Narrow (InStage n) = n < 255

-- a contract in order with a root kept beside each of its slots
pub record Stands (z : ℕ) (diskroots : List ℕ) (p : Place) : Type 0 where
  pub size : Size z
  pub order : place_in_order z p ≡ true
  pub slots : every (holds 32 diskroots) (committed z p) ≡ true

-- all of them
pub record Stand (z : ℕ) (diskroots : List ℕ) (ps : List Place) : Type 0 where
  pub size : Size z
  pub order : every (place_in_order z) ps ≡ true
  pub slots : every (holds 32 diskroots) (taken z ps) ≡ true

-- the sectors of the contract of an id, up to a size, with its copies in the stage
abbrev pub own_spots : ℕ → List Place → List ℕ → List ℕ → ℕ → List Spot
own_spots z ps id staged size = tab 0 (size / z) (spot_of (whose id ps).slots staged)

-- at most 64 of these, a root kept beside each, and beside each slot of all contracts
pub record Seeks (z : ℕ) (diskroots stageroots : List ℕ) (ps : List Place) (id staged : List ℕ) (size : ℕ) : Type 0 where
  pub few : size / z ≤ 64
  pub own : every (lies 32 diskroots stageroots) (own_spots z ps id staged size) ≡ true
  pub stand : Stand z diskroots ps

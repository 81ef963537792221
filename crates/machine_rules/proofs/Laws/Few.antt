-- What is read is at most 64 sectors. Assumes nothing.
use Rattle.lists.proofs.Kit.{◌≡◌, ap, Bool, true, false, not, List, [], ℕ, ◌/◌, ◌≤◌, arith}
use Rattle.lists.proofs.Kit.{length, take, length-take, leb, leb-true}
use Rattle.lists.specs.Pick.{pick}
use Rattle.lists.specs.Tests.{every}
use Rattle.lists.proofs.Laws.Pick.{by, picks, skips, both_right, second-not}
use Rattle.lists.proofs.Laws.Tab.{length-tab}
use Rattle.lists.proofs.Laws.Each.{length-each}
use Rattle.area.specs.Area.{same}
use Rattle.host.specs.Places.{whose, committed}
use Rattle.host.specs.Order.{place_in_order}
use Rattle.host.proofs.Laws.Whose.{whose-order}
use Rattle.machine_rules.specs.View.{parent, spot_of, parent_spots, committed_spots}
use Rattle.machine_rules.specs.declared.Setting.{Setting}
use Rattle.machine_rules.specs.Seats.{seats_of, first_seat}
use Rattle.machine_rules.specs.Plan.{missing, seen, spots, contract_source, sought_source, sector_source, source_of}
use Rattle.sia.specs.declared.Op.{Op}
use Rattle.sia.specs.declared.Op.TheVariants.{Read, ReadSector, Write, Copy, Swap, Truncate, Unknown}
use Rattle.host.specs.declared.Place.{Place}
use Rattle.host.specs.declared.Progress.{Progress}
use Rattle.machine_rules.specs.declared.Spot.{Spot}
use Rattle.machine_rules.specs.declared.Spot.TheVariants.{OnDisk}
use Rattle.std.specs.Prelude.{Option, Some, None}
use Rattle.machine_rules.specs.declared.Seat.{Seat}
use Rattle.machine_rules.proofs.Laws.Spots.{pick-spots}

-- ---- and there are at most 64 of them

few-committed : (z : ℕ) (p : Place) → place_in_order z p ≡ true → length (committed z p) ≤ 64
unfolding committed place_in_order
few-committed z p e =
    by p.held
    (λ h. let q : leb (p.size / z) 64 ≡ true = both_right _ _ (both_right _ _ (second-not p.held _ e h)) in
    omega (arith, ap length (picks p.held (take (p.size / z) p.slots) [] h), length-take (p.size / z) p.slots, leb-true (p.size / z) 64 q))
    (λ h. omega (arith, ap length (skips p.held (take (p.size / z) p.slots) [] h)))

pub few-whose : (z : ℕ) (id : List ℕ) (ps : List Place) → every (place_in_order z) ps ≡ true → length (committed z (whose id ps)) ≤ 64
few-whose z id ps h = few-committed z (whose id ps) (whose-order z id ps h)

few-sought : (r : Option Seat) → length (spots (sought_source r)) ≤ 1
unfolding sought_source spots
few-sought (Some x) = omega arith
few-sought None = omega arith

few-pick : (b : Bool) (l m : List Spot) → length l ≤ 64 → length m ≤ 64 → length (pick b l m) ≤ 64
unfolding pick
few-pick true l m u v = u
few-pick false l m u v = v

few-contract : (s : Setting) (p : Progress) (id : List ℕ) → every (place_in_order s.sector) s.places ≡ true → p.size / s.sector ≤ 64
    → length (spots (contract_source s p id)) ≤ 64
unfolding contract_source committed_spots parent_spots spots
few-contract s p id h u =
    rw (pick-spots (not (whose id s.places).held) missing (pick (same id s.terms.head.contract) (seen (parent_spots s p))
    (seen (committed_spots s.sector (whose id s.places)))))
    (few-pick _ [] _ (omega arith)
    (rw (pick-spots (same id s.terms.head.contract) (seen (parent_spots s p)) (seen (committed_spots s.sector (whose id s.places))))
    (few-pick _ _ _ (omega (arith, length-tab 0 (p.size / s.sector) (spot_of (parent s).slots p.staged), u))
    (omega (arith, length-each OnDisk (committed s.sector (whose id s.places)), few-whose s.sector id s.places h)))))

pub few-spots : (s : Setting) (f : Spot → List ℕ) (p : Progress) (op : Op) (key : List ℕ) → every (place_in_order s.sector) s.places ≡ true
    → p.size / s.sector ≤ 64
    → length (spots (source_of s f p op key)) ≤ 64
unfolding source_of sector_source spots
few-spots s f p Read key h u = few-contract s p key h u
few-spots s f p ReadSector key h u = omega (arith, few-sought (first_seat f key (seats_of s p)))
few-spots s f p Write key h u = omega arith
few-spots s f p Copy key h u = omega arith
few-spots s f p Swap key h u = omega arith
few-spots s f p Truncate key h u = omega arith
few-spots s f p Unknown key h u = omega arith

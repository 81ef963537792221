-- `machine_sight::lookup::first_of_others` meets its contract. The loop's invariant: the answer is that of the places that are left to look at. Assumes
-- nothing.
use Rattle.lists.proofs.Kit.{◌≡◌, slice}
use Rattle.host.specs.Places.{has_id}
use Rattle.machine_rules.specs.Roots.{kept_root}
use Rattle.machine_rules.specs.Seats.{committed_seats, first_seat}
use Rattle.machine_sight.proofs.lookup.first_of_others.Given as goal

abbrev pub invariant-loop-i : goal.invariant-loop-i
invariant-loop-i l =
    let f = kept_root l.diskroots l.stageroots in
    first_seat f l.key (committed_seats l.z (has_id l.id) 0 l.place-items)
    ≡ first_seat f l.key (committed_seats l.z (has_id l.id) l.i (slice l.i 8 l.place-items))

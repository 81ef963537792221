-- `machine_sight::lookup::first_in` meets its contract. The loop's invariant: the answer is that of the positions that are left to look at. Assumes
-- nothing.
use Rattle.lists.proofs.Kit.{◌≡◌, ◌-◌}
use Rattle.lists.specs.Tab.{tab}
use Rattle.machine_rules.specs.View.{spot_of}
use Rattle.machine_rules.specs.Roots.{kept_root}
use Rattle.machine_rules.specs.Seats.{seated, first_seat}
use Rattle.machine_sight.proofs.lookup.first_in.Given as goal

abbrev pub invariant-loop-position : goal.invariant-loop-position
invariant-loop-position l =
    let f = kept_root l.diskroots l.stageroots in
    let g = spot_of l.seen.slots l.seen.staged in
    first_seat f l.key (seated l.place 0 (tab 0 l.seen.count g))
    ≡ first_seat f l.key (seated l.place l.position (tab l.position (l.seen.count - l.position) g))

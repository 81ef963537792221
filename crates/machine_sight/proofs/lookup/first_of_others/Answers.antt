-- `machine_sight::lookup::first_of_others` meets its contract. The loop's invariant: the answer is that of the places that are left to look at. Assumes
-- nothing.
use Rattle.lists.proofs.Kit.{◌≡◌, sym, ap, ◌∙◌, arith, length}
use Rattle.lists.proofs.Laws.Slices.{slice_all}
use Rattle.host.specs.Places.{has_id}
use Rattle.host.proofs.Laws.Places.{blank}
use Rattle.machine_rules.specs.Roots.{kept_root}
use Rattle.machine_rules.specs.Seats.{committed_seats, first_seat}
use Rattle.machine_sight.proofs.Laws.Lookup.{stands_at, place_here, place-further, place_none}
use Rattle.machine_sight.proofs.lookup.first_of_others.Goals as goal
use Rattle.machine_sight.proofs.lookup.first_of_others.Goals.{Start}

long : (s : Start) → length s.args.places ≡ 8
long s = s.well_formed.1.1.1.0.1.0.1

pub loop-i-init : goal.loop-i-init
loop-i-init c =
    let f = kept_root c.args.diskroots.now c.args.stageroots.now in
    sym (ap (λ l. first_seat f c.args.key (committed_seats c.args.z (has_id c.args.id) 0 l)) (slice_all c.args.places (long (goal.at.loop-i-init c).Start)))

pub first_unless-found-requires : goal.first_unless-found-requires
first_unless-found-requires c =
    stands_at _ _ c.args.places c.loop-i.i blank (omega (arith, long (goal.at.first_unless-found-requires c).Start)) c.requires

pub returns-then-is_some : goal.returns-then-is_some
returns-then-is_some c =
    place_here _ _ c.args.z (has_id c.args.id) c.args.places c.loop-i.i 8 (long (goal.at.returns-then-is_some c).Start)
    c.first_unless-found.ensures (omega arith)
    (sym c.is_some.ensures ∙ c.if-is_some.true)
    ∙ sym c.loop-i.invariant

pub loop-i-preserved : goal.loop-i-preserved
loop-i-preserved c =
    c.loop-i.invariant
    ∙ place-further _ _ c.args.z (has_id c.args.id) c.args.places c.loop-i.i 8 (long (goal.at.loop-i-preserved c).Start)
    c.first_unless-found.ensures (omega arith)
    (sym c.is_some.ensures ∙ c.if-is_some.false)

pub returns : goal.returns
returns c =
    place_none _ _ c.args.z (has_id c.args.id) c.args.places c.loop-i.i 8 (long (goal.at.returns c).Start) (omega arith) ∙ sym c.loop-i.invariant

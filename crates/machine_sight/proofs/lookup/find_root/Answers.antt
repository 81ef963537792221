-- `machine_sight::lookup::find_root` meets its contract: a sector of the contract of that id, or else one of the others. Assumes nothing.
use Rattle.lists.proofs.Kit.{◌≡◌, sym, ap, ap₂, ◌∙◌, List, ℕ, ◌/◌, arith}
use Rattle.lists.specs.Tests.{every, first_of}
use Rattle.lists.specs.Tab.{tab}
use Rattle.host.specs.Places.{has_id}
use Rattle.machine_rules.specs.View.{spot_of}
use Rattle.machine_rules.specs.Roots.{kept_root}
use Rattle.machine_rules.specs.Seats.{seated, first_seat}
use Rattle.machine_sight.specs.Seen.{spots_of, lies}
use Rattle.host.specs.declared.Place.{Place}
use Rattle.machine_rules.specs.declared.Spot.{Spot}
use Rattle.machine_sight.specs.Lookup.{own_spots}
use Rattle.machine_sight.proofs.Laws.Lookup.{own-found, other-found}
use Rattle.machine_sight.proofs.lookup.find_root.Goals as goal
use Rattle.machine_sight.proofs.lookup.find_root.Goals.{After-first_in-own, After-parent_seen-seen}

-- ---- what the calls gave
own-seen : (c : After-parent_seen-seen) → let a = c.args in
    spots_of c.parent_seen-seen.result ≡ own_spots a.z a.places a.id a.staged a.size
own-seen c =
    let a = c.args in
    c.parent_seen-seen.ensures.0 ∙ ap (λ (p : Place). tab 0 (a.size / a.z) (spot_of p.slots a.staged)) c.place_of-parent.ensures

own_first : (c : After-first_in-own) → let a = c.args in
    c.first_in-own.result ≡ first_seat (kept_root a.diskroots.now a.stageroots.now) a.key
    (seated (first_of (has_id a.id) a.places) 0 (own_spots a.z a.places a.id a.staged a.size))
own_first c =
    let a = c.args in
    c.first_in-own.ensures
    ∙ ap₂ (λ (n : ℕ) (l : List Spot). first_seat (kept_root a.diskroots.now a.stageroots.now) a.key (seated n 0 l))
    c.place_number-number.ensures (own-seen (goal.at.After-first_in-own c).After-parent_seen-seen)

-- ---- the rules
pub first_in-own-requires : goal.first_in-own-requires
first_in-own-requires c =
    record {
      few = omega (arith, c.parent_seen-seen.ensures.1, c.requires.few);
      spots = ap (every (lies 32 c.args.diskroots.now c.args.stageroots.now)) (own-seen c) ∙ c.requires.own;
    }

pub returns-then-is_some : goal.returns-then-is_some
returns-then-is_some c =
    own-found _ _ _ _ _ _ (own_first (goal.at.returns-then-is_some c).After-first_in-own) (sym c.is_some.ensures ∙ c.if-is_some.true)

pub returns : goal.returns
returns c =
    other-found _ _ _ _ _ _ (own_first (goal.at.returns c).After-first_in-own) (sym c.is_some.ensures ∙ c.if-is_some.false) c.first_of_others.ensures

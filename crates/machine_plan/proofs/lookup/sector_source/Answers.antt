-- `machine_plan::lookup::sector_source` meets its contract: the sector that the look-up finds, or none. Assumes nothing.
use Rattle.lists.proofs.Kit.{◌≡◌}
use Rattle.lists.specs.Pick.{pick}
use Rattle.host.specs.Places.{has_id}
use Rattle.machine_rules.specs.View.{read_only_mode, parent, parent_spots}
use Rattle.machine_rules.specs.Roots.{kept_root}
use Rattle.std.specs.Prelude.{Option}
use Rattle.area.specs.Area.{same}
use Rattle.sia.specs.Names.{read_only}
use Rattle.machine_sight.specs.Lookup.{own_spots}
use Rattle.machine_rules.specs.declared.Seat.{Seat}
use Rattle.machine_rules.specs.Seats.{seats, all_seats, first_seat}
use Rattle.machine_plan.proofs.Laws.Lookup.{sought-narrow, sought-seen, not-sought}
use Rattle.machine_plan.proofs.lookup.sector_source.Goals as goal
use Rattle.machine_plan.proofs.lookup.sector_source.Goals.{Start}

-- what is looked through, in the definitions' words
found : (s : Start) {r : Option Seat} → let a = s.args in
    r ≡ first_seat (kept_root a.diskroots.now a.stageroots.now) a.key (pick (same a.setting.now.terms.head.contract read_only)
    (all_seats a.setting.now.sector a.setting.now.places)
    (seats a.setting.now.sector (has_id a.setting.now.terms.head.contract)
    (own_spots a.setting.now.sector a.setting.now.places a.setting.now.terms.head.contract a.p.staged a.p.size) a.setting.now.places))
    → r ≡ first_seat (kept_root a.diskroots.now a.stageroots.now) a.key (pick (read_only_mode a.setting.now.terms)
    (all_seats a.setting.now.sector a.setting.now.places)
    (seats a.setting.now.sector (has_id a.setting.now.terms.head.contract) (parent_spots a.setting.now a.p) a.setting.now.places))
unfolding read_only_mode parent_spots parent
found s e = e

pub returns-in_err-seat : goal.returns-in_err-seat
returns-in_err-seat c =
    let s = (goal.at.returns-in_err-seat c).Start in
    rw c.from_residual.ensures (not-sought _ _ _ _ c.requires c.args.key (found s c.find_for.ensures) c.in_err-seat.was)

pub one-requires : goal.one-requires
one-requires c =
    let s = (goal.at.one-requires c).Start in
    sought-narrow _ _ _ _ c.requires c.args.key (found s c.find_for.ensures) _ c.in_ok-seat.was

pub returns : goal.returns
returns c =
    let s = (goal.at.returns c).Start in
    sought-seen _ _ _ _ c.requires c.args.key (found s c.find_for.ensures) _ _ c.in_ok-seat.was c.one.ensures

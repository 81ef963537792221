-- `sought` meets its contract: of an open program what it looks through, else all committed sectors. Assumes nothing.
use Rattle.lists.proofs.Kit.{ap, ◌∙◌, not-true, not-false}
use Rattle.host.proofs.Laws.Lengths.{hosted, disk-rooted, stage-rooted}
use Rattle.machine_rules.specs.Roots.{kept_root}
use Rattle.machine_rules.specs.Seats.{first_seat}
use Rattle.machine.proofs.Laws.Seats.{stand, seeks-program, closed-seats, program-seats}
use Rattle.machine.proofs.locating.sought.Goals as goal

-- ---- the rules
pub find_in_all-requires : goal.find_in_all-requires
find_in_all-requires c =
    stand c.args.host c.requires (disk-rooted c.args.host _ c.well_formed.0)

pub returns-then-not-program : goal.returns-then-not-program
returns-then-not-program c =
    let h = c.args.host in
    c.find_in_all.ensures
    ∙ ap (first_seat (kept_root h.diskroots h.stageroots) c.args.root) (closed-seats h (not-true _ c.if-not-program.true))

pub find_for-requires : goal.find_for-requires
find_for-requires c =
    let h = c.args.host in
    seeks-program h c.requires (disk-rooted h _ c.well_formed.0) (stage-rooted h _ c.well_formed.0) (not-false _ c.if-not-program.false) (hosted h _ c.well_formed.0)

pub returns : goal.returns
returns c =
    let h = c.args.host in
    c.find_for.ensures
    ∙ ap (first_seat (kept_root h.diskroots h.stageroots) c.args.root) (program-seats h (not-false _ c.if-not-program.false))

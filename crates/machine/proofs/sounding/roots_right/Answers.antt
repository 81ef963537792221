-- `roots_right` meets its contract: the slots that contracts take, then those of an open program's staged positions. Assumes nothing.
use Rattle.lists.proofs.Kit.{◌≡◌, sym, ap, subst, ◌∙◌, not}
use Rattle.lists.specs.Tests.{every}
use Rattle.lists.proofs.Laws.Pick.{picks, yes, no}
use Rattle.area.proofs.Laws.Slots.{some}
use Rattle.host.specs.Places.{taken}
use Rattle.host.proofs.Laws.Lengths.{disk-rooted, stage-rooted}
use Rattle.host.proofs.Laws.Order.{order-facts}
use Rattle.machine_rules.specs.Sound.{right, staged_right, roots_right}
use Rattle.machine.specs.Beside.{Beside}
use Rattle.machine.proofs.Laws.Beside.{disk-beside, stage-beside, taken-right}
use Rattle.machine.proofs.sounding.roots_right.Goals as goal
use Rattle.machine.proofs.sounding.roots_right.Goals.{After-all_right}

-- what the first call gave
disk-told : (c : After-all_right) → let h = c.args.host in
    every (right h.sector c.args.disk.now h.diskroots) (taken h.sector h.places) ≡ c.all_right.result
disk-told c =
    let h = c.args.host in
    let o = order-facts h c.requires.host_value in
    sym (c.all_right.ensures
    ∙ ap (staged_right h.sector c.args.disk.now h.diskroots) (c.as_slice.ensures ∙ c.slots_taken-all.ensures.0)
    ∙ taken-right h.sector c.args.disk.now h.diskroots h.disk _ o.disk_most o.contracts.below)

pub slots_taken-all-requires : goal.slots_taken-all-requires
slots_taken-all-requires c = some _ (order-facts c.args.host c.requires.host_value).size

pub all_right-requires : goal.all_right-requires
all_right-requires c =
    let h = c.args.host in
    subst (Beside h.sector c.args.disk.now h.diskroots) (sym (c.as_slice.ensures ∙ c.slots_taken-all.ensures.0))
    (disk-beside h _ _ c.requires.host_value c.requires.stage_value (disk-rooted h _ c.well_formed.0))

pub all_right-requires-else-not-program : goal.all_right-requires-else-not-program
all_right-requires-else-not-program c =
    let h = c.args.host in
    stage-beside h _ _ c.requires.host_value c.requires.stage_value (stage-rooted h _ c.well_formed.0) c.if-not-program.false

-- the sectors on the disk are not right, or they are and the stage decides
pub returns-else-all_right : goal.returns-else-all_right
unfolding roots_right
returns-else-all_right c =
    let e = disk-told (goal.at.returns-else-all_right c).After-all_right ∙ c.if-all_right.false in no _ _ _ e c.if-all_right.false

pub returns-then-not-program : goal.returns-then-not-program
unfolding roots_right
returns-then-not-program c =
    let e = ap not c.if-not-program.true in
    yes _ _ _ (disk-told (goal.at.returns-then-not-program c).After-all_right ∙ c.if-all_right.true)
    (e ∙ sym (picks _ _ _ e))

pub returns-else-not-program : goal.returns-else-not-program
unfolding roots_right
returns-else-not-program c =
    yes _ _ _ (disk-told (goal.at.returns-else-not-program c).After-all_right ∙ c.if-all_right.true)
    (no _ _ _ (ap not c.if-not-program.false) c.all_right-else-not-program.ensures)

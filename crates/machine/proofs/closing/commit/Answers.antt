-- `machine::closing::commit` meets its contract: the parent's final slots, its place, the growth, and the staged sectors
-- and their roots copied back. Assumes nothing.
use mir.Syntax.{w64}
use mir.Val.{of_z, to_z}
use mir.Facts.{to_z-of_z}
use Rattle.lists.proofs.Kit.{◌≡◌, sym, ap, ◌∙◌}
use Rattle.area.specs.Slots.{Size}
use Rattle.area.proofs.Laws.Slots.{some}
use Rattle.host.specs.Places.{whose}
use Rattle.host.specs.With.{with_places, with_program, with_disk_roots}
use Rattle.host.specs.declared.Host.{Host}
use Rattle.host.proofs.Laws.Order.{order-facts}
use Rattle.host.proofs.Laws.Lengths.{disk-rooted, stage-rooted}
use Rattle.machine_rules.specs.View.{parent}
use Rattle.machine_rules.specs.Commit.{Closed, closed}
use Rattle.machine_rules.specs.Visit.{Declared}
use Rattle.machine.proofs.Laws.Shapes.{sounds}
use Rattle.machine.proofs.Callers.{few-slots, few-sectors, last-size, first-size, backs, roots-back, commit-made}
use Rattle.host.specs.declared.Program.{Program}
use Rattle.machine.proofs.closing.commit.Goals as goal
use Rattle.machine.proofs.closing.commit.Goals.{After-parent-old}

abbrev host : After-parent-old → Host
host c = c.args.host

-- ---- what is known
declared : (c : After-parent-old) → Declared (host c)
declared c = sounds (host c) _ c.well_formed.0

size : (c : After-parent-old) → Size (host c).sector
size c = (order-facts (host c) c.requires.order).size

-- the parent
own : (c : After-parent-old) → c.parent-old.result ≡ whose (host c).program.terms.head.contract (host c).places
unfolding parent
own c = c.parent-old.ensures ∙ ap parent c.setting_of-setting.ensures

-- ---- the rules
pub growth-growth-requires : goal.growth-growth-requires
growth-growth-requires c = let r = c.requires in
    record { last_bound = last-size _ _ _ (declared (goal.at.growth-growth-requires c).After-parent-old) r; first_bound = first-size _ _ _ (declared (goal.at.growth-growth-requires c).After-parent-old) r (own (goal.at.growth-growth-requires c).After-parent-old) }

pub copy_back-requires : goal.copy_back-requires
copy_back-requires c =
    backs _ _ _ (declared (goal.at.copy_back-requires c).After-parent-old) c.requires (own (goal.at.copy_back-requires c).After-parent-old) c.final_slots-slots.ensures

pub copy_back-requires-2 : goal.copy_back-requires-2
copy_back-requires-2 c =
    roots-back _ _ _ (declared (goal.at.copy_back-requires-2 c).After-parent-old) c.requires (own (goal.at.copy_back-requires-2 c).After-parent-old) c.final_slots-slots.ensures

pub returns : goal.returns
unfolding with_program with_places with_disk_roots
returns c =
    let h = host (goal.at.returns c).After-parent-old in
    let made : Program → Closed =
    λ g. closed 0 h.program.progress.tally (to_z w64 (of_z w64 c.growth-growth.result))
    (with_disk_roots (with_program (with_places h c.replaced_in-after_places.result) g) c.copy_back-2.new.disk)
    c.copy_back.new.disk in
    ap made c.none-none.ensures
    ∙ commit-made _ h _ (own (goal.at.returns c).After-parent-old) c.final_slots-slots.ensures c.final_place-new.ensures
    c.replaced_in-after_places.ensures
    (to_z-of_z {w = w64} {z = c.growth-growth.result} (record { sfits = c.growth-growth.type_inv }) ∙ c.growth-growth.ensures) c.copy_back.ensures
    c.copy_back-2.ensures

pub final_slots-slots-requires : goal.final_slots-slots-requires
final_slots-slots-requires c = let r = c.requires in record { size = size c; disk_bound = few-slots _ _ _ (declared c) r; z_bound = few-sectors _ _ _ (declared c) r }

pub nonzero_div-count : goal.nonzero_div-count
nonzero_div-count c = some _ (size (goal.at.nonzero_div-count c).After-parent-old)

pub slice_bounds-copy_back-end : goal.slice_bounds-copy_back-end
slice_bounds-copy_back-end c = sym (stage-rooted (host (goal.at.slice_bounds-copy_back-end c).After-parent-old) _ c.well_formed.0)

pub slice_bounds-copy_back-end-2 : goal.slice_bounds-copy_back-end-2
slice_bounds-copy_back-end-2 c = sym (disk-rooted (host (goal.at.slice_bounds-copy_back-end-2 c).After-parent-old) _ c.well_formed.0)

-- A commit leaves the places in order: kept slots stay, new ones are free ones, and as many are free as are wanted. Assumes nothing.
use Rattle.lists.proofs.Kit.{◌≡◌, refl, ap, ◌∙◌, true, false, not, List, ℕ, ◌/◌, ◌≤◌, ◌<◌}
use Rattle.lists.specs.Tests.{apart}
use Rattle.lists.proofs.Laws.Pick.{by, picks, both_left, both_right, both-join}
use Rattle.area.proofs.Laws.Slots as Slots
use Rattle.host.specs.Empty.{no_program}
use Rattle.host.specs.With.{with_places, with_program, with_disk_roots}
use Rattle.host.specs.Places.{whose}
use Rattle.host.specs.Order.{twins, places_in_order, in_order}
use Rattle.host.specs.Calls.{replaced}
use Rattle.host.proofs.Laws.Order.{facts-contracts, order-facts}
use Rattle.machine_rules.specs.View.{parent, volume_by}
use Rattle.machine_rules.specs.Commit.{final_slots, final_place, copied_back, commit}
use Rattle.machine_rules.specs.Visit.{Declared}
use Rattle.machine_rules.proofs.Laws.Split.{Split, split, replaced-none}
use Rattle.machine_rules.proofs.Laws.KeptSlots.{none_of}
use Rattle.machine_rules.proofs.Laws.Taking.{order-good}
use Rattle.host.specs.declared.Place.{Place}
use Rattle.host.specs.declared.Host.{Host}
use Rattle.machine_rules.proofs.Laws.Final.{Final, final}
use Rattle.machine_rules.proofs.Laws.FinalOrder.{committed-order}

-- ---- committing

commit-places : (disk : List ℕ) (h : Host) (stage : List ℕ) → let old = whose h.program.terms.head.contract h.places in
    (commit disk h stage).host
    ≡ with_disk_roots (with_program
    (with_places h (replaced h.program.terms.head.contract (final_place old h.program.progress.size
    (final_slots h.sector h.disk h.places old h.program.progress.size)) h.places)) no_program)
    (copied_back 32 h.stageroots h.program.progress.staged (final_slots h.sector h.disk h.places old h.program.progress.size) 0
    (h.program.progress.size / h.sector) h.diskroots)
unfolding commit parent volume_by
commit-places disk h stage = refl

idle-order : (h : Host) (ps : List Place) (roots : List ℕ) → in_order h ≡ true → places_in_order h.sector h.disk ps ≡ true
    → in_order (with_disk_roots (with_program (with_places h ps) no_program) roots) ≡ true
unfolding in_order with_program with_places with_disk_roots no_program
idle-order h ps roots o q =
    let b = both_right _ _ o in
    let c = both_right _ _ b in
    both-join _ _ (both_left _ _ o) (both-join _ _ (both_left _ _ b) (both-join _ _ (both_left _ _ c) (both-join _ _ q (picks (not false) true _ refl))))

pub order-places : (h : Host) → in_order h ≡ true → (places_in_order h.sector h.disk h.places ≡ true) × (h.disk ≤ 64)
order-places h o = let f = order-facts h o in (facts-contracts _ _ _ f.contracts, f.disk_most)

-- there are bytes in a sector
pub order-some : (h : Host) → in_order h ≡ true → 0 < h.sector
order-some h o = Slots.some h.sector (order-facts h o).size

pub place-twins : (z disk : ℕ) (ps : List Place) → places_in_order z disk ps ≡ true → apart twins ps ≡ true
unfolding places_in_order
place-twins z disk ps o = both_left _ _ (both_right _ _ o)

pub final-place : (z disk size : ℕ) (id : List ℕ) (ps : List Place) (it : Place) (l : List ℕ) → whose id ps ≡ it → final_slots z disk ps it size ≡ l
    → final_place (whose id ps) size (final_slots z disk ps (whose id ps) size) ≡ final_place it size l
final-place z disk size id ps it l e f =
    ap (λ (x : Place). final_place x size (final_slots z disk ps x size)) e ∙ ap (λ (m : List ℕ). final_place it size m) f

-- the place of a held parent, and the slots that a commit gives it
pub parent-split : (h : Host) → in_order h ≡ true → (whose h.program.terms.head.contract h.places).held ≡ true
    → Split h.program.terms.head.contract h.places
parent-split h o e = split _ h.places (place-twins h.sector h.disk h.places (order-places h o).0) e

pub parent-final : (h : Host) → Declared h → in_order h ≡ true → h.program.active ≡ true → (s : Split h.program.terms.head.contract h.places)
    → Final h.sector h.disk h.program.progress.size h.program.terms.head.contract h.places s
parent-final h sound o live s =
    let q = order-places h o in
    let g = (order-good h o live sound.staged).orderly in
    final h.sector h.disk _ _ h.places s (order-some h o) q.1 q.0 sound.places g.whole g.within

pub commit-order : (disk : List ℕ) (h : Host) (stage : List ℕ) → Declared h → in_order h ≡ true → h.program.active ≡ true
    → in_order (commit disk h stage).host ≡ true
unfolding volume_by
commit-order disk h stage sound o live =
    let id = h.program.terms.head.contract in
    let size = h.program.progress.size in
    let q = order-places h o in
    let g = (order-good h o live sound.staged).orderly in
    ap in_order (commit-places disk h stage)
    ∙ idle-order h _ _ o
    (by (whose id h.places).held
    (λ e. let s = parent-split h o e in
    let f = parent-final h sound o live s in
    ap (λ (x : Place). places_in_order h.sector h.disk (replaced id x h.places))
    (final-place h.sector h.disk size id h.places s.it _ s.whose-is f.is)
    ∙ committed-order h.sector h.disk size id h.places s f q.1 q.0 g.whole)
    (λ e. ap (places_in_order h.sector h.disk) (replaced-none id _ h.places (none_of id h.places e)) ∙ q.0))

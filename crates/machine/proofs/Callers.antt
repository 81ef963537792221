-- What callers use: what a host in order with an open program gives the functions of this crate, and that what they make together is the
-- definition's commit. z is the sector size. Assumes nothing.
use Rattle.lists.proofs.Kit.{◌≡◌, ap, ◌∙◌, true, List, [], ◌∷◌, ℕ, ◌*◌, ◌/◌, ◌≤◌, ◌<◌, zero-div, mul-le-mul_right}
use Rattle.lists.proofs.Kit.{div-le_of_le-mul, arith, length, get_or, ltb, ltb-true}
use lib.IntN.{ℤ, pos, ◌-ℤ◌}
use Rattle.lists.specs.Tests.{every}
use Rattle.lists.proofs.Laws.Pick.{by, both_left, both_right}
use Rattle.lists.proofs.Laws.Every.{every-fore, every-aft, every_get}
use Rattle.area.proofs.Laws.Slots.{slot-within}
use Rattle.host.specs.Empty.{none, no_place, no_program}
use Rattle.host.specs.With.{with_places, with_program, with_disk_roots, with_size, with_slots}
use Rattle.host.specs.Places.{has_id, whose, taken}
use Rattle.host.specs.Order.{place_in_order, in_order}
use Rattle.host.specs.Calls.{replaced}
use Rattle.machine_rules.specs.View.{parent, setting_of, volume_by, volume_of}
use Rattle.machine_rules.specs.Facts.{Good, Solid}
use Rattle.machine_rules.specs.Commit.{Closed, closed, final_slots, copied_back, final_place, commit}
use Rattle.machine_rules.specs.Visit.{Declared}
use Rattle.machine_rules.proofs.Committing.{order-places, order-some}
use Rattle.machine_rules.proofs.Laws.Copies.{whole-sectors}
use Rattle.machine_rules.proofs.Laws.Sizes.{place-size, whose-whole, whose-here, whose-on}
use Rattle.host.proofs.Laws.Whose.{has-held}
use Rattle.machine_rules.proofs.Laws.Taking.{areas-stage}
use Rattle.host.specs.declared.Place.{Place}
use Rattle.host.specs.declared.Host.{Host}
use Rattle.machine_step.specs.Turns.{Ready}
use Rattle.machine.specs.Marks.{filled}
use Rattle.machine.specs.Back.{Back}
use Rattle.machine.proofs.Laws.Filled.{slot-filled, back-filled, place-filled}
use Rattle.machine_rules.specs.Visit.{Areas}
use Rattle.machine_rules.proofs.Committing.{parent-split, parent-final}
use Rattle.machine_rules.proofs.Commits.Parent.{Closing}
use Rattle.machine_rules.proofs.Commits.Parent as Parent

-- ---- the sizes of contracts in order

none-size : (z : ℕ) (id : List ℕ) → 0 < z → (whose id []).size / z ≤ 64
unfolding whose no_place
none-size z id some = omega (arith, zero-div z)

whose-small : (z : ℕ) (id : List ℕ) (ps : List Place) → 0 < z → every (place_in_order z) ps ≡ true → (whose id ps).size / z ≤ 64
unfolding every
whose-small z id [] some h = none-size z id some
whose-small z id (p ∷ ps) some h =
    by (has_id id p)
    (λ e. omega (arith, ap (λ (q : Place). q.size / z) (whose-here id p ps e), (place-size z p (both_left _ _ h) (has-held id p e)).1))
    (λ e. omega (arith, ap (λ (q : Place). q.size / z) (whose-on id p ps e), whose-small z id ps some (both_right _ _ h)))

-- ---- a host in order with an open program

module _ (disk : List ℕ) (h : Host) (stage : List ℕ) (sound : Declared h) (r : Ready disk h stage) where
  abbrev o : in_order h ≡ true
  o = r.order

  abbrev z : ℕ
  z = h.sector

  abbrev id : List ℕ
  id = h.program.terms.head.contract

  abbrev size : ℕ
  size = h.program.progress.size

  abbrev staged : List ℕ
  staged = h.program.progress.staged

  -- a close on such a host
  abbrev lent : Areas
  lent = record { disk = disk; stage = stage; input = []; output = [] }

  closing : Closing h lent
  closing = record { declared = sound; order = o; areas = r.areas; live = r.live }

  good : Good (setting_of h) h.program.progress
  good = Parent.good h lent closing

  solid : Solid (setting_of h) (volume_of h disk)
  solid = Parent.solid h lent closing

  -- what `final_slots` asks
  pub few-slots : h.disk ≤ 64
  few-slots = (order-places h o).1

  in-slots : size ≤ 64 * z
  unfolding volume_by
  in-slots = omega (arith, good.orderly.within, mul-le-mul_right z few-slots)

  pub few-sectors : size / z ≤ 64
  few-sectors = div-le_of_le-mul z (omega (arith, in-slots))

  -- what `growth` asks
  pub last-size : size ≤ 268435456
  last-size = omega (arith, in-slots, solid.lent.size.most)

  pub first-size : {p : Place} → p ≡ whose id h.places → p.size ≤ 268435456
  unfolding volume_by
  first-size e =
      let small = whose-small z id h.places (order-some h o) solid.small in
      let whole = whole-sectors z (whose id h.places).size (whose-whole z id h.places solid.small) in
      omega (arith, ap (λ (p : Place). p.size) e, mul-le-mul_right z small, whole, solid.lent.size.most)

  -- the final slots are slots of the disk
  pub final-below : (j : ℕ) → j < size / z → get_or (final_slots z h.disk h.places (whose id h.places) size) j 0 < h.disk
  unfolding volume_by
  final-below j lt =
      by (whose id h.places).held
      (λ e. let s = parent-split h o e in
      let f = parent-final h sound o r.live s in
      let is = ap (λ (x : Place). final_slots z h.disk h.places x size) s.whose-is ∙ f.is in
      let all : every (λ n. ltb n h.disk) f.slots ≡ true =
      every-fore _ f.slots (taken z s.behind) (every-aft _ (taken z s.before) _ f.below) in
      let b : get_or f.slots j 0 < h.disk =
      ltb-true (get_or f.slots j 0) h.disk (every_get (λ n. ltb n h.disk) f.slots j 0 (omega (arith, f.long)) all) in
      omega (arith, b, ap (λ (l : List ℕ). get_or l j 0) is))
      (λ e. absurd (omega (arith, Parent.no-sectors h lent closing e)))

  -- the staged slots and the final ones lie within areas with slots of y bytes, as many as the stage and the disk have
  backs-at : (y : ℕ) (from to : List ℕ) {p : Place} {slots : List ℕ} → h.stage * y ≤ length from → h.disk * y ≤ length to
      → p ≡ whose id h.places → slots ≡ filled (final_slots z h.disk h.places p size) → Back y from staged slots (size / z) to
  backs-at y from to {p} {slots} long wide e q =
      let l = final_slots z h.disk h.places (whose id h.places) size in
      let is : slots ≡ filled l = q ∙ ap (λ (x : Place). filled (final_slots z h.disk h.places x size)) e in
      record {
        few = few-sectors;
        each = λ j lt. record {
          source = λ u. slot-within y (get_or staged j none) h.stage from (Parent.staged-below h lent closing j u) long;
          target = λ u. slot-within y (get_or slots j 0) h.disk to
              (omega (arith, final-below j lt, ap (λ (x : List ℕ). get_or x j 0) is ∙ slot-filled l j)) wide;
        };
      }

  -- what `copy_back` asks, of the bytes
  pub backs : {p : Place} {slots : List ℕ} → p ≡ whose id h.places → slots ≡ filled (final_slots z h.disk h.places p size)
      → Back z stage staged slots (size / z) disk
  unfolding volume_by
  backs e q = backs-at z stage disk (omega (arith, areas-stage h disk stage r.areas)) (omega (arith, solid.disk)) e q

  -- and of the roots kept beside the slots
  pub roots-back : {p : Place} {slots : List ℕ} → p ≡ whose id h.places → slots ≡ filled (final_slots z h.disk h.places p size)
      → Back 32 h.stageroots staged slots (size / z) h.diskroots
  unfolding volume_by
  roots-back e q =
      backs-at 32 h.stageroots h.diskroots (omega (arith, sound.stage, solid.lent.few)) (omega (arith, sound.disk, few-slots)) e q

-- ---- a commit, from what the functions of this crate make

pub commit-made : {p place : Place} {slots after roots : List ℕ} {places : List Place} {growth : ℤ}
    (disk : List ℕ) (h : Host) (stage : List ℕ)
    → let id = h.program.terms.head.contract in let size = h.program.progress.size in
    p ≡ whose id h.places → slots ≡ filled (final_slots h.sector h.disk h.places p size)
    → place ≡ with_slots (with_size p size) slots → places ≡ replaced id place h.places → growth ≡ pos size -ℤ pos p.size
    → after ≡ copied_back h.sector stage h.program.progress.staged slots 0 (size / h.sector) disk
    → roots ≡ copied_back 32 h.stageroots h.program.progress.staged slots 0 (size / h.sector) h.diskroots
    → closed 0 h.program.progress.tally growth (with_disk_roots (with_program (with_places h places) no_program) roots) after
    ≡ commit disk h stage
unfolding commit parent volume_by
commit-made {p} {place} {slots} {after} {roots} {places} {growth} disk h stage e s q r g a b =
    let id = h.program.terms.head.contract in
    let size = h.program.progress.size in
    let l : Place → List ℕ = λ x. final_slots h.sector h.disk h.places x size in
    let left : ℤ → List Place → List ℕ → List ℕ → Closed = λ n ps d m.
    closed 0 h.program.progress.tally n (with_disk_roots (with_program (with_places h ps) no_program) m) d in
    let back : ℕ → List ℕ → List ℕ → List ℕ → List ℕ = λ y from to x.
    copied_back y from h.program.progress.staged x 0 (size / h.sector) to in
    let final : place ≡ final_place p size (l p) = q ∙ ap (with_slots (with_size p size)) s ∙ place-filled p size (l p) in
    let bytes : after ≡ back h.sector stage disk (l p) =
    a ∙ ap (back h.sector stage disk) s
    ∙ back-filled h.sector stage h.program.progress.staged (l p) 0 (size / h.sector) disk in
    let beside : roots ≡ back 32 h.stageroots h.diskroots (l p) =
    b ∙ ap (back 32 h.stageroots h.diskroots) s
    ∙ back-filled 32 h.stageroots h.program.progress.staged (l p) 0 (size / h.sector) h.diskroots in
    (λ i. left (g i) ((r ∙ ap (λ (x : Place). replaced id x h.places) final) i) (bytes i) (beside i))
    ∙ ap (λ (x : Place). left (pos size -ℤ pos x.size) (replaced id (final_place x size (l x)) h.places)
    (back h.sector stage disk (l x)) (back 32 h.stageroots h.diskroots (l x))) e

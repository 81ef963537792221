-- The parent that a commit replaces, and what a commit leaves: with a held parent, and in read-only mode. Assumes nothing.
use Rattle.lists.proofs.Kit.{◌≡◌, refl, sym, ap, ◌∙◌, subst, true, false, List, ℕ, ◌/◌, zero-div, ◌<◌, get_or, eqb, ltb-true}
use lib.IntN.{pos, ◌-ℤ◌}
use Rattle.lists.proofs.Laws.Pick.{by, picks, skips, both_left}
use Rattle.lists.proofs.Laws.Every.{every-at}
use Rattle.host.specs.Empty.{none, no_program}
use Rattle.host.specs.With.{with_places, with_program, with_disk_roots}
use Rattle.host.specs.Places.{whose}
use Rattle.host.specs.Order.{in_order, slot_in_order, terms_in_order}
use Rattle.host.specs.Calls.{replaced}
use Rattle.machine_rules.specs.View.{parent, areas_right, setting_of, volume_of}
use Rattle.machine_rules.specs.Facts.{Good, Solid}
use Rattle.machine_rules.specs.Commit.{Closed, closed, final_slots, final_place, copied_back, commit}
use Rattle.machine_rules.specs.Visit.{Areas, Declared}
use Rattle.machine_rules.proofs.Committing.{parent-split, parent-final}
use Rattle.machine_rules.proofs.Laws.Final.{Final}
use Rattle.machine_rules.proofs.Laws.KeptSlots.{none_of}
use Rattle.machine_rules.proofs.Laws.Sizes.{nothing-reached}
use Rattle.machine_rules.proofs.Laws.Split.{Split, replaced-none}
use Rattle.machine_rules.proofs.Laws.Taking.{order-good, order-solid}
use Rattle.host.specs.declared.Place.{Place}
use Rattle.host.specs.declared.Host.{Host}

-- a host with a program open, its arrays as declared, and areas as it states
pub record Closing (h : Host) (a : Areas) : Type 0 where
  pub declared : Declared h
  pub order : in_order h ≡ true
  pub areas : areas_right h a.disk a.stage ≡ true
  pub live : h.program.active ≡ true

-- the parent's id, and its place among the host's
abbrev pub id_of : Host → List ℕ
id_of h = h.program.terms.head.contract

abbrev pub Parent : Host → Type 0
Parent h = Split (id_of h) h.places

-- the slots that a commit gives it
abbrev pub Slots : (h : Host) → Parent h → Type 0
Slots h s = Final h.sector h.disk h.program.progress.size (id_of h) h.places s

-- what a commit leaves, by the parent's starting size, the places, the roots kept beside the disk's slots, and the disk
unfoldable pub left : Host → ℕ → List Place → List ℕ → List ℕ → Closed
left h size ps roots disk = closed 0 h.program.progress.tally (pos h.program.progress.size -ℤ pos size)
    (with_disk_roots (with_program (with_places h ps) no_program) roots) disk

-- the staged slots of an area copied back to the parent's, y bytes a slot
abbrev pub back : Host → ℕ → List ℕ → List ℕ → List ℕ → List ℕ
back h y copies slots area = copied_back y copies h.program.progress.staged slots 0 (h.program.progress.size / h.sector) area

-- by the parent's place and its final slots
abbrev pub left_by : Host → Areas → Place → List ℕ → Closed
left_by h a x l = left h x.size (replaced (id_of h) (final_place x h.program.progress.size l) h.places)
    (back h 32 h.stageroots l h.diskroots) (back h h.sector a.stage l a.disk)

module _ (h : Host) (a : Areas) (c : Closing h a) where
  abbrev slots : Place → List ℕ
  slots x = final_slots h.sector h.disk h.places x h.program.progress.size

  pub good : Good (setting_of h) h.program.progress
  good = order-good h c.order c.live c.declared.staged

  pub solid : Solid (setting_of h) (volume_of h a.disk)
  solid = order-solid h a.disk a.stage c.order c.areas

  -- a staged slot is one of the stage's
  pub staged-below : (j : ℕ) → let n = get_or h.program.progress.staged j none in eqb n none ≡ false → n < h.stage
  unfolding slot_in_order
  staged-below j e =
      let staged = h.program.progress.staged in
      ltb-true _ _ (sym (skips (eqb (get_or staged j none) none) true _ e)
      ∙ every-at (slot_in_order h.stage) staged j none good.orderly.staged.slots (picks (eqb none none) true _ refl))

  commit-left : commit a.disk h a.stage ≡ left_by h a (whose (id_of h) h.places) (slots (whose (id_of h) h.places))
  unfolding left commit parent
  commit-left = refl

  -- ---- no parent: read-only mode

  module _ (free : (whose (id_of h) h.places).held ≡ false) where
    pub nobody : h.program.progress.size ≡ 0
    unfolding terms_in_order
    nobody = nothing-reached h.places (id_of h) _ (both_left _ _ good.terms) free

    pub no-sectors : h.program.progress.size / h.sector ≡ 0
    no-sectors = ap (λ (n : ℕ). n / h.sector) nobody ∙ zero-div h.sector

    nothing-back : (y : ℕ) (copies l area : List ℕ) → back h y copies l area ≡ area
    unfolding copied_back
    nothing-back y copies l area = ap (λ (n : ℕ). copied_back y copies h.program.progress.staged l 0 n area) no-sectors

    nothing_left : (x : Place) (l : List ℕ) → left_by h a x l ≡ left h x.size h.places h.diskroots a.disk
    nothing_left x l =
        let places = replaced-none (id_of h) (final_place x h.program.progress.size l) h.places (none_of (id_of h) h.places free) in
        λ i. left h x.size (places i) (nothing-back 32 h.stageroots l h.diskroots i) (nothing-back h.sector a.stage l a.disk i)

  -- ---- either way

  -- what holds of what is left with a held parent and in read-only mode holds of what a commit leaves
  pub commit-ways : (K : Closed → Type 0) → ((s : Parent h) (f : Slots h s) → K (left_by h a s.it f.slots))
      → ((whose (id_of h) h.places).held ≡ false → K (left h (whose (id_of h) h.places).size h.places h.diskroots a.disk))
      → K (commit a.disk h a.stage)
  commit-ways K held free =
      by (whose (id_of h) h.places).held
      (λ e. let s = parent-split h c.order e in
      let f = parent-final h c.declared c.order c.live s in
      subst K (sym (commit-left ∙ ap (λ (x : Place). left_by h a x (slots x)) s.whose-is ∙ ap (left_by h a s.it) f.is)) (held s f))
      (λ e. subst K (sym (commit-left ∙ nothing_left e _ _)) (free e))

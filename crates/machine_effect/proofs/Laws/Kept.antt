-- A copy that is made keeps what effects rely on: every sector reads as before, and bytes laid before or after it are the same.
-- z is the sector size. Assumes nothing.
use Rattle.lists.proofs.Kit.{◌≡◌, refl, sym, ap, ◌∙◌, subst, Bool, true, false, List, ℕ, ◌+◌, ◌*◌, ◌/◌, ◌%◌, ◌≤◌, ◌<◌, arith, length, get_or, set}
use Rattle.lists.proofs.Kit.{get_or-set_same, get_or-set_other, eqb, eqb-true, eqb-false, ne_eqb, ltb-true}
use mathlib.Core.Logic.{◌⊎◌, inl, inr, ⊎_elim}
use Rattle.lists.proofs.Laws.Pick.{by, never, either_second}
use Rattle.lists.proofs.Laws.Every.{every_set, every-at}
use Rattle.area.specs.Area.{part, put}
use Rattle.area.proofs.Laws.Parts.{length_part}
use Rattle.area.proofs.Laws.Puts.{length-put, part-put}
use Rattle.area.proofs.Laws.Exchange.{part-away, put-away}
use Rattle.area.proofs.Laws.Slots.{slot-ends, slots_apart}
use Rattle.host.specs.Empty.{none}
use Rattle.host.specs.Places.{free_copy}
use Rattle.host.specs.Order.{slot_in_order}
use Rattle.machine_rules.specs.Effect.{Ground, Staging, new_copy, sector_at, copied, laid}
use Rattle.machine_rules.proofs.Laws.Staged.{slot-none, slot-below}
use Rattle.machine_rules.proofs.Laws.Copies.{free-slot}
use Rattle.machine_effect.specs.Asks.{bare, Lent, Free, Lies, Room}
use Rattle.machine_effect.proofs.Laws.Slots.{New, new-slot}
use Rattle.machine_effect.proofs.Laws.Copies.{on_disk, reads-disk, reads-stage, copied-new, copied-old}

-- a position has a copy, which ends within the stage
pub record Has (z : ℕ) (g : Staging) (p : ℕ) : Type 0 where
  pub copy : bare p g ≡ false
  pub ends : get_or g.staged p none * z + z ≤ length g.bytes

pub has : (z : ℕ) (e : Ground) (g : Staging) (p : ℕ) → Lent z e g → bare p g ≡ false → Has z g p
unfolding bare slot_in_order
has z e g p lent h =
    let below = ltb-true _ _ (either_second _ _ (every-at (slot_in_order e.copies) g.staged p none lent.slots (slot-none e.copies)) h) in
    let ends = slot-ends z (get_or g.staged p none) e.copies below in
    record { copy = h; ends = omega (arith, ends, lent.long) }

-- ---- a new copy

module _ (z : ℕ) (e : Ground) (g : Staging) (p : ℕ) (lent : Lent z e g) (free : Free e g) where
  new : New z g (free_copy e.copies g.staged)
  new = new-slot z e g (free_copy e.copies g.staged) lent free refl

  pub lent-new : (bs : List ℕ) → Lent z e (new_copy z e p bs g)
  unfolding new_copy free_copy
  lent-new bs =
      record {
        size = lent.size;
        few = lent.few;
        long = length-put _ _ _ ∙ lent.long;
        slots = every_set (slot_in_order e.copies) g.staged p _ lent.slots (slot-below e.copies _ (free-slot e.copies g.staged free).below);
      }

  -- it is the position's own
  own-slot : (bs : List ℕ) → p < length g.staged → get_or (new_copy z e p bs g).staged p none ≡ free_copy e.copies g.staged
  unfolding new_copy
  own-slot bs lt = get_or-set_same g.staged p (free_copy e.copies g.staged) none lt

  pub own-copy : (bs : List ℕ) → p < length g.staged → bare p (new_copy z e p bs g) ≡ false
  unfolding bare
  own-copy bs lt = ne_eqb (get_or (new_copy z e p bs g).staged p none) none (λ x. omega (arith, x, own-slot bs lt, new.small))

  -- and no other's
  other-slot : (bs : List ℕ) (q : ℕ) → (q ≡ p → ⊥) → get_or (new_copy z e p bs g).staged q none ≡ get_or g.staged q none
  unfolding new_copy
  other-slot bs q ne = get_or-set_other g.staged p q (free_copy e.copies g.staged) none ne

  other-copy : (bs : List ℕ) (q : ℕ) → (q ≡ p → ⊥) → bare q (new_copy z e p bs g) ≡ bare q g
  unfolding bare
  other-copy bs q ne = ap (λ (n : ℕ). eqb n none) (other-slot bs q ne)

  -- what is read of it
  pub own_read : (bs : List ℕ) → p < length g.staged → length bs ≡ z → sector_at z e p (new_copy z e p bs g) ≡ bs
  unfolding new_copy
  own_read bs lt l =
      let f = free_copy e.copies g.staged in
      reads-stage z e p (new_copy z e p bs g) (own-copy bs lt)
      ∙ ap (λ (n : ℕ). part (put g.bytes (f * z) bs) (n * z) z) (own-slot bs lt)
      ∙ part-put g.bytes (f * z) bs z (sym l) (omega (arith, l, new.room))

  other-read : (bs : List ℕ) (q : ℕ) → (q ≡ p → ⊥) → length bs ≡ z → sector_at z e q (new_copy z e p bs g) ≡ sector_at z e q g
  unfolding new_copy
  other-read bs q ne l =
      let f = free_copy e.copies g.staged in
      by (bare q g)
      (λ h. reads-disk z e q (new_copy z e p bs g) (other-copy bs q ne ∙ h) ∙ sym (reads-disk z e q g h))
      (λ h. let far : (get_or g.staged q none * z + z ≤ f * z) ⊎ (f * z + length bs ≤ get_or g.staged q none * z) =
      ⊎_elim (λ w. inl w) (λ w. inr (omega (arith, l, w))) (slots_apart z (get_or g.staged q none) f (new.own q)) in
      reads-stage z e q (new_copy z e p bs g) (other-copy bs q ne ∙ h)
      ∙ ap (λ (n : ℕ). part (put g.bytes (f * z) bs) (n * z) z) (other-slot bs q ne)
      ∙ part-away g.bytes (f * z) bs (get_or g.staged q none * z) z far
      ∙ sym (reads-stage z e q g h))

  -- bytes laid over another position's copy, before or after
  new-laid : (bs cs : List ℕ) (at : ℕ) → bare (at / z) g ≡ false → (at / z ≡ p → ⊥) → length bs ≡ z → at % z + length cs ≤ z
      → new_copy z e p bs (laid z at cs g) ≡ laid z at cs (new_copy z e p bs g)
  unfolding new_copy laid
  new-laid bs cs at h ne l le =
      let f = free_copy e.copies g.staged in
      let s = get_or g.staged (at / z) none in
      let far : (s * z + at % z + length cs ≤ f * z) ⊎ (f * z + length bs ≤ s * z + at % z) =
      ⊎_elim (λ w. inl (omega (arith, le, w))) (λ w. inr (omega (arith, l, w))) (slots_apart z s f (new.own (at / z))) in
      let bytes = put-away g.bytes (s * z + at % z) cs (f * z) bs far in
      λ x. record {
        staged = set g.staged p f;
        bytes = (bytes ∙ ap (λ (n : ℕ). put (put g.bytes (f * z) bs) (n * z + at % z) cs) (sym (other-slot bs (at / z) ne))) x;
      }

-- bytes laid over copies take no slot
bare-laid : {b : Bool} (z at : ℕ) (cs : List ℕ) (g : Staging) (p : ℕ) → bare p g ≡ b → bare p (laid z at cs g) ≡ b
unfolding bare laid
bare-laid z at cs g p h = h

-- ---- `copied`

module _ (z : ℕ) (e : Ground) (g : Staging) (p : ℕ) (lent : Lent z e g) (room : Room z e g p) where
  pub lent-copied : Lent z e (copied z e p g)
  lent-copied =
      by (bare p g)
      (λ h. subst (Lent z e) (sym (copied-new z e p g h)) (lent-new z e g p lent (room.free h) (on_disk z e p)))
      (λ h. subst (Lent z e) (sym (copied-old z e p g h)) lent)

  -- a position that has a copy keeps it
  pub still : (q : ℕ) → bare q g ≡ false → bare q (copied z e p g) ≡ false
  still q k =
      by (bare p g)
      (λ h. let ne : q ≡ p → ⊥ = λ w. never (sym h ∙ sym (ap (λ (n : ℕ). bare n g) w) ∙ k) in
      ap (bare q) (copied-new z e p g h) ∙ other-copy z e g p lent (room.free h) (on_disk z e p) q ne ∙ k)
      (λ h. ap (bare q) (copied-old z e p g h) ∙ k)

  -- and one that lies somewhere lies there
  pub lies-copied : (q : ℕ) → Lies z e g q → Lies z e (copied z e p g) q
  lies-copied q lies =
      record { entry = lies.entry; there = λ h. by (bare q g) (λ k. lies.there k) (λ k. never (sym h ∙ still q k)) }

  -- a sector of the disk is whole
  whole : bare p g ≡ true → length (on_disk z e p) ≡ z
  unfolding on_disk
  whole h = length_part e.disk (get_or e.slots p 0 * z) z (room.lies.there h)

  module _ (long : length g.staged ≡ 64) where
    inside : p < length g.staged
    inside = omega (arith, long, room.lies.entry)

    pub has-copied : Has z (copied z e p g) p
    has-copied =
        has z e (copied z e p g) p lent-copied
        (by (bare p g)
        (λ h. ap (bare p) (copied-new z e p g h) ∙ own-copy z e g p lent (room.free h) (on_disk z e p) inside)
        (λ h. ap (bare p) (copied-old z e p g h) ∙ h))

    -- every sector reads as before
    pub sector-copied : (q : ℕ) → sector_at z e q (copied z e p g) ≡ sector_at z e q g
    sector-copied q =
        by (bare p g)
        (λ h. ap (sector_at z e q) (copied-new z e p g h)
        ∙ by (eqb q p)
        (λ w. let same = eqb-true q p w in
        ap (λ (n : ℕ). sector_at z e n (new_copy z e p (on_disk z e p) g)) same
        ∙ own_read z e g p lent (room.free h) (on_disk z e p) inside (whole h)
        ∙ sym (reads-disk z e p g h) ∙ ap (λ (n : ℕ). sector_at z e n g) (sym same))
        (λ w. other-read z e g p lent (room.free h) (on_disk z e p) q (eqb-false q p w) (whole h)))
        (λ h. ap (sector_at z e q) (copied-old z e p g h))

  -- bytes laid over a copy, before or after
  pub laid-copied : (at : ℕ) (cs : List ℕ) → bare (at / z) g ≡ false → at % z + length cs ≤ z → copied z e p (laid z at cs g) ≡ laid z at cs (copied z e p g)
  laid-copied at cs k le =
      by (bare p g)
      (λ h. let ne : at / z ≡ p → ⊥ = λ w. never (sym h ∙ sym (ap (λ (n : ℕ). bare n g) w) ∙ k) in
      copied-new z e p (laid z at cs g) (bare-laid z at cs g p h)
      ∙ new-laid z e g p lent (room.free h) (on_disk z e p) cs at k ne (whole h) le
      ∙ ap (laid z at cs) (sym (copied-new z e p g h)))
      (λ h. copied-old z e p (laid z at cs g) (bare-laid z at cs g p h) ∙ ap (laid z at cs) (sym (copied-old z e p g h)))

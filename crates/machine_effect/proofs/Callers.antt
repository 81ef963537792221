-- What callers use: an instruction that had what its effect asks has left what rehashing asks, and the positions that it touched are told
-- by the two offsets alone. z is the sector size. Assumes nothing.
use Rattle.lists.proofs.Kit.{◌≡◌, refl, sym, ap, ◌∙◌, subst, false, List, [], ◌∷◌, ℕ, ◌*◌, ◌/◌, ◌<◌, arith, length, get_or, length-replicate, ltb, eqb}
use Rattle.lists.proofs.Kit.{ltb-true, lt-ltb}
use Rattle.lists.proofs.Laws.Pick.{by, picks, skips, either_second}
use Rattle.lists.proofs.Laws.Every.{every-at}
use Rattle.area.specs.Area.{part, zeros}
use Rattle.area.proofs.Laws.Puts.{length-put}
use Rattle.host.specs.Empty.{none}
use Rattle.host.specs.Order.{slot_in_order}
use Rattle.machine_rules.specs.declared.Args.{Args}
use Rattle.machine_rules.specs.Plan.{touched}
use Rattle.machine_rules.specs.Effect.{Ground, Staging, new_copy, copied, laid, span_written, resized, effect}
use Rattle.machine_rules.proofs.Laws.Staged.{slot-none}
use Rattle.machine_rules.proofs.Laws.Copies.{written-map, length-copied}
use Rattle.sia.specs.declared.Op.{Op}
use Rattle.sia.specs.declared.Op.TheVariants.{Read, ReadSector, Write, Copy, Swap, Truncate, Unknown}
use Rattle.machine_effect.specs.Asks.{bare, Lent, Room, Over, Two, Sized, Stands}
use Rattle.machine_effect.proofs.Laws.Copies.{reads-stage}
use Rattle.machine_effect.proofs.Laws.Kept.{has, lent-new, own-copy, own_read, lent-copied, still, has-copied}
use Rattle.machine_effect.specs.Rehashes.{Beside, Each, Rehashes}

-- ---- a position that has a copy

-- a root is kept beside its slot
beside : (z : ℕ) (e : Ground) (h : Staging) (p : ℕ) (roots : List ℕ) → length roots ≡ 512 → Lent z e h → p < 64 → bare p h ≡ false
    → Beside z h roots p
unfolding bare slot_in_order
beside z e h p roots long lent entry b =
    let slot = every-at (slot_in_order e.copies) h.staged p none lent.slots (slot-none e.copies) in
    let below : get_or h.staged p none < e.copies = ltb-true _ _ (either_second _ _ slot b) in
    record { near = record { entry = entry; kept = omega (arith, long, lent.few, below) }; lies = (has z e h p lent b).ends }

-- ---- bytes laid over a copy take no slot and free none

module _ (z : ℕ) (e : Ground) (g : Staging) (at : ℕ) (bs : List ℕ) where
  lent_laid : Lent z e g → Lent z e (laid z at bs g)
  unfolding laid
  lent_laid l = record { size = l.size; few = l.few; long = length-put _ _ _ ∙ l.long; slots = l.slots }

  room-laid : (p : ℕ) → Room z e g p → Room z e (laid z at bs g) p
  unfolding laid bare
  room-laid p r = record { lies = record { entry = r.lies.entry; there = r.lies.there }; free = r.free }

  copy-laid : (p : ℕ) → bare p g ≡ false → bare p (laid z at bs g) ≡ false
  unfolding laid bare
  copy-laid p b = b

-- ---- what an effect leaves

-- copies lie in the stage, and a position has one
record Left (z : ℕ) (e : Ground) (h : Staging) (p : ℕ) : Type 0 where
  lent : Lent z e h
  copy : bare p h ≡ false

written : (z : ℕ) (e : Ground) (g : Staging) → Lent z e g → length g.staged ≡ 64 → (at : ℕ) (bs : List ℕ) → Room z e g (at / z)
    → Left z e (span_written z e at bs g) (at / z)
unfolding span_written
written z e g lent long at bs room = record {
  lent = lent_laid z e _ at bs (lent-copied z e g (at / z) lent room);
  copy = copy-laid z e _ at bs (at / z) (has-copied z e g (at / z) lent room long).copy;
}

-- a position that had one keeps it
still-left : (z : ℕ) (e : Ground) (g : Staging) → Lent z e g → (at : ℕ) (bs : List ℕ) → Room z e g (at / z) → (p : ℕ) → bare p g ≡ false
    → bare p (span_written z e at bs g) ≡ false
unfolding span_written
still-left z e g lent at bs room p b = copy-laid z e _ at bs p (still z e g (at / z) lent room p b)

-- and room for another position stays as `copied` left it
room-left : (z : ℕ) (e : Ground) (g : Staging) (at : ℕ) (bs : List ℕ) (p : ℕ) → Room z e (copied z e (at / z) g) p
    → Room z e (span_written z e at bs g) p
unfolding span_written
room-left z e g at bs p r = room-laid z e _ at bs p r

module _ (z : ℕ) (e : Ground) (g : Staging) (roots : List ℕ) (size : ℕ) (a : Args) (lent : Lent z e g) (entries : length g.staged ≡ 64)
    (long : length roots ≡ 512) where
  one : (bs : List ℕ) (n : ℕ) → Over z e g a.first n → Beside z (span_written z e a.first bs g) roots (a.first / z)
  one bs n over =
      let h = written z e g lent entries a.first bs over.room in
      beside z e _ (a.first / z) roots long h.lent over.room.lies.entry h.copy

  two : (bs cs : List ℕ) → Two z e g a.first a.second a.len
      → let h = span_written z e a.first bs (span_written z e a.second cs g) in
      Beside z h roots (a.second / z) × Beside z h roots (a.first / z)
  two bs cs both =
      let f : Staging = span_written z e a.second cs g in
      let more : length f.staged ≡ 64 =
      ap length (written-map z e a.second cs g) ∙ length-copied e.copies (a.second / z) g.staged ∙ entries in
      let room = room-left z e g a.second cs (a.first / z) both.first.room in
      let second = written z e g lent entries a.second cs both.second.room in
      let first = written z e f second.lent more a.first bs room in
      let kept = still-left z e f second.lent a.first bs room (a.second / z) second.copy in (
        beside z e _ (a.second / z) roots long first.lent both.second.room.lies.entry kept,
        beside z e _ (a.first / z) roots long first.lent both.first.room.lies.entry first.copy,
      )

  module _ (sized : Sized z e g size a.first) (more : size < a.first) where
    entry : size / z < length g.staged
    entry = omega (arith, sized.more more, entries)

    grown : resized z e size a.first g ≡ new_copy z e (size / z) (zeros z) g
    unfolding resized
    grown = picks (ltb size a.first) _ _ (lt-ltb size a.first more)

    new : Beside z (resized z e size a.first g) roots (size / z)
    new =
        subst (λ (h : Staging). Beside z h roots (size / z)) (sym grown)
        (beside z e _ (size / z) roots long (lent-new z e g (size / z) lent (sized.free more) (zeros z)) (sized.more more)
        (own-copy z e g (size / z) lent (sized.free more) (zeros z) entry))

    new-zeros : let h = resized z e size a.first g in part h.bytes (get_or h.staged (size / z) none * z) z ≡ zeros z
    new-zeros =
        subst (λ (h : Staging). part h.bytes (get_or h.staged (size / z) none * z) z ≡ zeros z) (sym grown)
        (sym (reads-stage z e (size / z) _ (own-copy z e g (size / z) lent (sized.free more) (zeros z) entry))
        ∙ own_read z e g (size / z) lent (sized.free more) (zeros z) entry (length-replicate {A = ℕ} z 0))

  -- by the instruction
  each : (op : Op) (d : List ℕ) → Stands z e size op a g → Each (Beside z (effect z e size op a d g) roots) (touched z size op a)
  unfolding effect touched
  each Read d s = tt
  each ReadSector d s = tt
  each Write d s = (one _ _ (s.write refl), tt)
  each Copy d s = (one _ _ (s.copy refl), tt)
  each Swap d s =
      let b = two _ _ (s.swap refl) in
      let same = eqb (a.first / z) (a.second / z) in
      by same
      (λ t. subst (Each _) (sym (picks same (a.second / z ∷ []) (a.second / z ∷ a.first / z ∷ []) t)) (b.0, tt))
      (λ t. subst (Each _) (sym (skips same (a.second / z ∷ []) (a.second / z ∷ a.first / z ∷ []) t)) (b.0, (b.1, tt)))
  each Truncate d s =
      let more = ltb size a.first in
      by more
      (λ t. subst (Each _) (sym (picks more (size / z ∷ []) [] t)) (new (s.truncate refl) (ltb-true size a.first t), tt))
      (λ t. subst (Each _) (sym (skips more (size / z ∷ []) [] t)) tt)
  each Unknown d s = tt

  grows : (op : Op) (d : List ℕ) → Stands z e size op a g → op ≡ Truncate → size < a.first
      → let h = effect z e size op a d g in part h.bytes (get_or h.staged (size / z) none * z) z ≡ zeros z
  unfolding effect
  grows op d s o more =
      subst (λ (x : Op). let h = effect z e size x a d g in part h.bytes (get_or h.staged (size / z) none * z) z ≡ zeros z) (sym o)
      (new-zeros (s.truncate o) more)

-- what `rehash` asks, with what the effect left
pub rehashes : (z : ℕ) (e : Ground) (size : ℕ) (op : Op) (a : Args) (d : List ℕ) (g h : Staging) (roots : List ℕ) → length g.staged ≡ 64
    → length roots ≡ 512 → Stands z e size op a g → h ≡ effect z e size op a d g
    → Rehashes z size op a h roots
rehashes z e size op a d g h roots entries long s q =
    subst (λ (x : Staging). Rehashes z size op a x roots) (sym q) (record {
      whole = s.lent.size;
      each = each z e g roots size a s.lent entries long op d s;
      new = grows z e g roots size a s.lent entries long op d s;
    })

-- Slots of the stage: where they begin and end, and what the lowest free one is. z is the sector size. Assumes nothing.
use Rattle.lists.proofs.Kit.{◌≡◌, sym, ap, ◌∙◌, false, List, [], ◌∷◌, ℕ, zero, suc, ◌+◌, ◌*◌, ◌/◌, ◌%◌, ◌≤◌, ◌<◌, arith, length, get_or, eqb, eqb-false}
use Rattle.lists.specs.Tests.{some}
use Rattle.lists.proofs.Laws.Entries.{any-default}
use Rattle.lists.proofs.Laws.Some.{some_first, some-tail}
use Rattle.area.proofs.Laws.Slots.{slot-ends}
use Rattle.host.specs.Empty.{none}
use Rattle.host.specs.Places.{free_copy}
use Rattle.machine_rules.specs.Effect.{Ground, Staging}
use Rattle.machine_rules.proofs.Laws.Copies.{free-slot}
use Rattle.machine_effect.specs.Parts.{place_of}
use Rattle.machine_effect.specs.Asks.{Lent, Free}

-- the code's place of a byte
pub place_is : {slot : ℕ} (z : ℕ) (slots : List ℕ) (at : ℕ) → length slots ≡ 64 → at / z < 64 → slot ≡ get_or slots (at / z) 0
    → slot * z + at % z ≡ place_of z slots at
place_is z slots at l h e = ap (λ (n : ℕ). n * z + at % z) (e ∙ any-default slots (at / z) 0 none (omega arith))

-- a slot that no position has
pub not_there : (slot : ℕ) (l : List ℕ) (p : ℕ) → some (eqb slot) l ≡ false → (slot ≡ none → ⊥) → get_or l p none ≡ slot → ⊥
not_there slot [] p h ne e = ne (sym e)
not_there slot (x ∷ xs) zero h ne e = eqb-false slot x (some_first slot x xs h) (sym e)
not_there slot (x ∷ xs) (suc p) h ne e = not_there slot xs p (some-tail slot x xs h) ne e

-- ---- the lowest free slot

-- where one is free, it is: below 16, within the stage, and no position's
pub record New (z : ℕ) (g : Staging) (slot : ℕ) : Type 0 where
  pub small : slot < 16
  pub room : slot * z + z ≤ length g.bytes
  pub own : (p : ℕ) → get_or g.staged p none ≡ slot → ⊥

pub new-slot : (z : ℕ) (e : Ground) (g : Staging) (slot : ℕ) → Lent z e g → Free e g → slot ≡ free_copy e.copies g.staged → New z g slot
unfolding free_copy
new-slot z e g slot lent free q =
    let f = free-slot e.copies g.staged free in
    let below : slot < e.copies = omega (arith, q, f.below) in
    let ends : slot * z + z ≤ e.copies * z = slot-ends z slot e.copies below in
    record {
      small = omega (arith, lent.few, below);
      room = omega (arith, lent.long, ends);
      own = λ p w. not_there _ g.staged p f.unused (λ x. omega (arith, x, f.below, lent.few)) (w ∙ q);
    }

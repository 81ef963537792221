-- The staged positions stay in order: a copy is made, a sector is added, a sector is dropped. Assumes nothing.
use Rattle.lists.proofs.Kit.{◌≡◌, refl, ap, ◌∙◌, true, false, not, List, [], ◌∷◌, ◌++◌, ℕ, suc, ◌≤◌, ◌<◌, arith, length, take, drop, set, length-append}
use Rattle.lists.proofs.Kit.{drop_of_length-le, take-suc-set, take-set-lt, take-set-le, drop-set-lt, drop-append-le, length-take-le, leb, eqb, leb-true}
use Rattle.lists.proofs.Kit.{leb-false, lt-ltb, ne_eqb}
use Rattle.lists.specs.Tests.{some}
use Rattle.lists.proofs.Laws.Pick.{by, picks, skips, never}
use Rattle.lists.proofs.Laws.Every.{every_set, every_front, every-one-more, every-set-first, every-set-from, every-none, every-drop-more}
use Rattle.host.specs.Empty.{none}
use Rattle.host.specs.Order.{slot_in_order}
use Rattle.host.specs.Facts.{Staged}
use Rattle.machine_rules.proofs.Laws.Clash.{apart-set}

-- a slot that is free: below the count of slots, and no position has it
pub record Free (stage slot : ℕ) (staged : List ℕ) : Type 0 where
  pub below : slot < stage
  pub unused : some (eqb slot) staged ≡ false

free-not-none : (stage slot : ℕ) → stage ≤ 16 → slot < stage → eqb slot none ≡ false
free-not-none stage slot h k = ne_eqb slot none (λ e. omega arith)

pub slot-below : (stage slot : ℕ) → slot < stage → slot_in_order stage slot ≡ true
unfolding slot_in_order
slot-below stage slot h = by (eqb slot none) (λ e. picks _ true _ e) (λ e. skips _ true _ e ∙ lt-ltb _ _ h)

pub slot-none : (stage : ℕ) → slot_in_order stage none ≡ true
unfolding slot_in_order
slot-none stage = picks _ true _ refl

module _ (stage start : ℕ) (few : stage ≤ 16) where
  -- a position below the running size gets a copy
  pub copy-kept : (now pos slot : ℕ) (staged : List ℕ) → pos < now → Free stage slot staged → Staged stage start now staged
      → Staged stage start now (set staged pos slot)
  copy-kept now pos slot staged lt fr f =
      let nn = free-not-none stage slot few fr.below in
      record {
        slots = every_set (slot_in_order stage) staged pos slot f.slots (slot-below stage slot fr.below);
        own = apart-set staged pos slot (λ e. fr.unused) f.own;
        below = rw (drop-set-lt now staged pos slot lt) f.below;
        past = rw (take-set-lt now staged pos slot lt) (every-set-from _ start (take now staged) pos slot f.past (ap not nn));
      }

  -- a sector is added
  pub grow-kept : (now slot : ℕ) (staged : List ℕ) → now < length staged → Free stage slot staged → Staged stage start now staged
      → Staged stage start (suc now) (set staged now slot)
  grow-kept now slot staged lt fr f =
      let nn = free-not-none stage slot few fr.below in
      record {
        slots = every_set (slot_in_order stage) staged now slot f.slots (slot-below stage slot fr.below);
        own = apart-set staged now slot (λ e. fr.unused) f.own;
        below = rw (drop-set-lt (suc now) staged now slot (omega arith)) (every-drop-more _ now staged f.below);
        past = rw (take-suc-set staged now slot lt) (by (leb start now)
            (λ e. let le : start ≤ length (take now staged) = omega (arith, leb-true start now e, length-take-le now staged (omega arith)) in
            rw (drop-append-le start (take now staged) (slot ∷ []) le) (every-one-more _ (drop start (take now staged)) slot f.past (ap not nn)))
            (λ e. let le : length (take now staged ++ (slot ∷ [])) ≤ start = omega
            (arith, leb-false start now e, length-append (take now staged) (slot ∷ []), length-take-le now staged (omega arith)) in
            rw (drop_of_length-le (take now staged ++ (slot ∷ [])) le) (every-none _)));
      }

  -- a sector is dropped
  pub shrink-kept : (now : ℕ) (staged : List ℕ) → Staged stage start (suc now) staged → Staged stage start now (set staged now none)
  shrink-kept now staged f =
      record {
        slots = every_set (slot_in_order stage) staged now none f.slots (slot-none stage);
        own = apart-set staged now none (λ e. never e) f.own;
        below = every-set-first _ now staged none f.below refl;
        past = rw (take-set-le now staged now none (omega arith)) (every_front _ start now staged (suc now) (omega arith) f.past);
      }

-- Slots of an area with a root kept beside each, and what a host in order has of them. z is the sector size. Assumes nothing.
use Rattle.lists.proofs.Kit.{◌≡◌, refl, sym, ap, ap₂, ◌∙◌, true, false, List, [], ◌∷◌, ℕ, ◌*◌, ◌≤◌, ◌<◌, arith, length, get_or, ltb, eqb, ltb-true, eqb-true}
use Rattle.lists.proofs.Kit.{ne_eqb}
use Rattle.lists.specs.Pick.{both}
use Rattle.lists.specs.Tests.{every}
use Rattle.lists.proofs.Laws.Pick.{skips, both_left, both_right, both-join}
use Rattle.lists.proofs.Laws.Every.{every_get}
use Rattle.area.specs.Area.{same}
use Rattle.host.specs.Empty.{none}
use Rattle.host.specs.Places.{taken}
use Rattle.host.specs.Order.{slot_in_order, in_order}
use Rattle.host.proofs.Laws.Order.{order-facts}
use Rattle.machine_rules.specs.View.{sector, disk_right, areas_right}
use Rattle.machine_rules.specs.Roots.{sector_root, kept_root}
use Rattle.machine_rules.specs.Sound.{right, staged_right}
use Rattle.machine_rules.proofs.Laws.Staged.{slot-below}
use Rattle.machine_sight.specs.Seen.{holds}
use Rattle.machine_sight.proofs.Callers.{slots-hold}
use Rattle.machine.specs.Beside.{Beside}
use Rattle.host.specs.declared.Host.{Host}
use Rattle.machine_rules.specs.declared.Spot.TheVariants.{OnDisk}

-- ---- one slot

-- which area a slot is of makes no difference to its bytes
pub right_is : (z : ℕ) (bytes roots : List ℕ) (n : ℕ) {one two : List ℕ} → one ≡ kept_root roots roots (OnDisk n)
    → two ≡ sector_root z bytes bytes (OnDisk n) → same one two ≡ right z bytes roots n
unfolding right kept_root sector_root sector
right_is z bytes roots n e q = ap₂ same e q

module _ (z : ℕ) (bytes roots : List ℕ) where
  pub one-beside : (l : List ℕ) (i d : ℕ) {n : ℕ} → Beside z bytes roots l → i < length l → n ≡ get_or l i d → Beside z bytes roots (n ∷ [])
  unfolding every
  one-beside l i d b lt e = record {
    size = b.size;
    many = b.many;
    within = b.within;
    rooted = b.rooted;
    each = both-join _ _ (ap (slot_in_order b.many) e ∙ every_get (slot_in_order b.many) l i d lt b.each) refl;
  }

  -- a slot that there is
  slot-there : (n : ℕ) (b : Beside z bytes roots (n ∷ [])) → (n ≡ none → ⊥) → every (λ k. ltb k b.many) (n ∷ []) ≡ true
  unfolding every slot_in_order
  slot-there n b some = both-join _ _ (sym (skips _ _ _ (ne_eqb n none some)) ∙ both_left _ _ b.each) refl

  pub beside-holds : (n : ℕ) → Beside z bytes roots (n ∷ []) → (n ≡ none → ⊥) → (holds z bytes n ≡ true) × (holds 32 roots n ≡ true)
  unfolding every
  beside-holds n b some =
      let below = slot-there n b some in (
        both_left _ _ (slots-hold z bytes b.many (n ∷ []) b.within below),
        both_left _ _ (slots-hold 32 roots b.many (n ∷ []) b.rooted below),
      )

-- ---- slots of the disk: none of them is "none"

none_above : (m n : ℕ) → m ≤ 64 → ltb n m ≡ true → eqb n none ≡ false
none_above m n few h = ne_eqb n none (λ e. let lt = ltb-true n m h in absurd (omega (arith, e)))

slots-in-order : (m : ℕ) (l : List ℕ) → every (λ n. ltb n m) l ≡ true → every (slot_in_order m) l ≡ true
unfolding every
slots-in-order m [] h = refl
slots-in-order m (x ∷ xs) h = both-join _ _ (slot-below m x (ltb-true x m (both_left _ _ h))) (slots-in-order m xs (both_right _ _ h))

pub taken-right : (z : ℕ) (bytes roots : List ℕ) (m : ℕ) (l : List ℕ) → m ≤ 64 → every (λ n. ltb n m) l ≡ true
    → staged_right z bytes roots l ≡ every (right z bytes roots) l
unfolding staged_right every
taken-right z bytes roots m [] few h = refl
taken-right z bytes roots m (x ∷ xs) few h =
    ap₂ both (skips _ _ _ (none_above m x few (both_left _ _ h))) (taken-right z bytes roots m xs few (both_right _ _ h))

-- ---- a host in order

module _ (h : Host) (disk stage : List ℕ) (o : in_order h ≡ true) (a : areas_right h disk stage ≡ true) where
  pub disk-beside : length h.diskroots ≡ 2048 → Beside h.sector disk h.diskroots (taken h.sector h.places)
  unfolding areas_right disk_right
  disk-beside long =
      let f = order-facts h o in
      let lent = eqb-true (length disk) (h.disk * h.sector) (both_left _ _ a) in
      record {
        size = f.size;
        many = h.disk;
        within = omega (arith, lent);
        rooted = omega (arith, long, f.disk_most);
        each = slots-in-order h.disk _ f.contracts.below;
      }

  pub stage-beside : length h.stageroots ≡ 512 → h.program.active ≡ true
      → Beside h.sector stage h.stageroots h.program.progress.staged
  unfolding areas_right
  stage-beside long live =
      let f = order-facts h o in
      let lent = eqb-true (length stage) (h.stage * h.sector) (both_right _ _ a) in
      record {
        size = f.size;
        many = h.stage;
        within = omega (arith, lent);
        rooted = omega (arith, long, f.stage_most);
        each = (f.running live).progress.staged.slots;
      }

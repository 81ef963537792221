-- What callers use: what is seen of a machine in order lies within its areas, and contracts of this crate in the machine's own words.
-- z is the sector size. Assumes nothing.
use Rattle.lists.proofs.Kit.{◌≡◌, refl, sym, ap, ◌∙◌, true, false, List, [], ◌∷◌, ℕ, ◌+◌, ◌*◌, ◌/◌, ◌%◌, ◌≤◌, ◌<◌, arith, length, get_or, ltb, eqb, ltb-true}
use Rattle.lists.proofs.Kit.{ltb-false, le-leb, eqb-true, eqb-false, not-false}
use Rattle.lists.specs.Tests.{every}
use Rattle.lists.specs.Tab.{tab}
use Rattle.lists.proofs.Laws.Pick.{both_left, both_right, both-join, either_left, either-right}
use Rattle.area.specs.Area.{part}
use Rattle.area.specs.Slots.{Size}
use Rattle.area.proofs.Laws.Slots.{slot-ends, slot-below}
use Rattle.tree.specs.Walk.{count}
use Rattle.machine_rules.specs.View.{sector, spot_of, parent, parent_spots}
use Rattle.machine_rules.specs.declared.Setting.{Setting}
use Rattle.machine_rules.specs.Roots.{segments, range_count}
use Rattle.machine_rules.specs.declared.Args.{Args}
use Rattle.machine_rules.specs.Plan.{bad_span, bad_proof}
use Rattle.machine_rules.specs.Record.{output_of}
use Rattle.machine_rules.specs.Facts.{valid}
use Rattle.sia.specs.declared.Op.{Op}
use Rattle.host.specs.declared.Place.{Place}
use Rattle.host.specs.declared.Progress.{Progress}
use Rattle.machine_rules.specs.declared.Spot.{Spot}
use Rattle.machine_rules.specs.declared.Spot.TheVariants.{OnDisk, InStage}
use Rattle.machine_sight.specs.Seen.{spots_of, holds, lies, span_of, Lies, Known, Inside, Ranged}
use Rattle.machine_sight.specs.declared.Seen.{Seen}
use Rattle.machine_sight.proofs.Laws.Roots.{seen-count, seen_at}

-- ---- slots that there are lie within the areas, and their roots, 32 bytes each, within those that are kept

below : (z : ℕ) (area : List ℕ) (m n : ℕ) → m * z ≤ length area → ltb n m ≡ true → holds z area n ≡ true
unfolding holds
below z area m n e h = le-leb (n * z + z) (length area) (omega (arith, slot-ends z n m (ltb-true n m h)))

pub slots-hold : (z : ℕ) (area : List ℕ) (m : ℕ) (l : List ℕ) → m * z ≤ length area → every (λ n. ltb n m) l ≡ true
    → every (holds z area) l ≡ true
unfolding every
slots-hold z area m [] e h = refl
slots-hold z area m (x ∷ xs) e h = both-join _ _ (below z area m x e (both_left _ _ h)) (slots-hold z area m xs e (both_right _ _ h))

module _ (z : ℕ) (s : Setting) (disk stage : List ℕ) (d : s.disksectors * z ≤ length disk) (e : s.stagesectors * z ≤ length stage) where
  pub valid-lies : (x : Spot) → valid s x ≡ true → lies z disk stage x ≡ true
  unfolding valid lies
  valid-lies (OnDisk n) h = below z disk s.disksectors n d h
  valid-lies (InStage n) h = below z stage s.stagesectors n e h

  pub every-lies : (l : List Spot) → every (valid s) l ≡ true → every (lies z disk stage) l ≡ true
  unfolding every
  every-lies [] h = refl
  every-lies (x ∷ xs) h = both-join _ _ (valid-lies x (both_left _ _ h)) (every-lies xs (both_right _ _ h))

module _ (s : Setting) (v : Seen) (l : List Spot) (q : spots_of v ≡ l) (few : length l ≤ 64) (h : every (valid s) l ≡ true) where
  seen_few : v.count ≤ 64
  seen_few = omega (arith, seen-count v, ap length q)

  pub seen-valid : (z : ℕ) (disk stage : List ℕ) → Size z → s.disksectors * z ≤ length disk → s.stagesectors * z ≤ length stage
      → Lies z disk stage v
  seen-valid z disk stage size d e = record {
    size = size;
    few = seen_few;
    spots = ap (every (lies z disk stage)) q ∙ every-lies z s disk stage d e l h;
  }

  pub seen-known : (diskroots stageroots : List ℕ) → s.disksectors * 32 ≤ length diskroots → s.stagesectors * 32 ≤ length stageroots
      → Known diskroots stageroots v
  seen-known diskroots stageroots d e = record {
    few = seen_few;
    spots = ap (every (lies 32 diskroots stageroots)) q ∙ every-lies 32 s diskroots stageroots d e l h;
  }

-- ---- checks 26 and 27 give what is asked of a span and of a range

pub span-inside : (z : ℕ) → Size z → (m at n : ℕ) → bad_span z (m * z) at n ≡ false → Inside z m at n
unfolding bad_span
span-inside z size m at n b =
    let some = eqb-false n 0 (either_left _ _ b) in
    let rest = either-right (eqb n 0) _ b in
    let end = ltb-false (m * z) (at + n) (either_left _ _ rest) in
    let one = ltb-false z (at % z + n) (either-right _ _ rest) in
    record { below = slot-below z size at m (omega (arith, some, end)); one = omega (arith, one) }

pub range-ranged : (z : ℕ) → Size z → (op : Op) (a : Args) (m : ℕ) → bad_span z (m * z) a.first a.len ≡ false → bad_proof op a ≡ false
    → Ranged z m a.first a.len
unfolding bad_span bad_proof
range-ranged z size op a m b p =
    let some = eqb-false a.len 0 (either_left _ _ b) in
    let rest = either-right _ _ p in
    record {
      inside = span-inside z size m a.first a.len b;
      some = omega (arith, some);
      first = eqb-true _ _ (not-false _ (either_left _ _ rest));
      whole = eqb-true _ _ (not-false _ (either-right _ _ rest));
    }

-- ---- contracts in the machine's words

-- `span` gives what a read hands out
pub span-output : (z : ℕ) (disk stage : List ℕ) (v : Seen) (a : Args) → a.first / z < v.count
    → span_of z disk stage v a.first a.len ≡ output_of z disk stage (spots_of v) a
unfolding output_of
span-output z disk stage v a h = at (spots_of v) (omega (arith, seen-count v)) (λ d. seen_at v (a.first / z) d h) where
  at : (l : List Spot) → a.first / z < length l → ((d : Spot) → get_or l (a.first / z) d ≡ spot_of v.slots v.staged (a.first / z))
      → span_of z disk stage v a.first a.len ≡ output_of z disk stage l a
  at [] lt f = absurd (omega arith)
  at (x ∷ xs) lt f = ap (λ (y : Spot). part (sector z disk stage y) (a.first % z) a.len) (sym (f x))

-- `range_count` is the count of hashes of a record
pub count-range : (z m at n : ℕ) → count (segments z m) (at / 64) ((at + n) / 64) ≡ range_count z m at n
unfolding range_count
count-range z m at n = refl

-- `parent_seen` sees the parent
pub parent-spots : (s : Setting) (p : Progress) (q : Place) → q ≡ parent s
    → tab 0 (p.size / s.sector) (spot_of q.slots p.staged) ≡ parent_spots s p
unfolding parent_spots
parent-spots s p q e = ap (λ (x : Place). tab 0 (p.size / s.sector) (spot_of x.slots p.staged)) e

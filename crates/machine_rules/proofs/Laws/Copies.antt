-- Stage copies: which slots positions take, and how many. Assumes nothing.
use Rattle.lists.proofs.Kit.{◌≡◌, refl, sym, ap, ◌∙◌, subst, Bool, true, false, not, List, [], ◌∷◌, ℕ, ◌+◌, ◌*◌, ◌/◌, ◌%◌, ◌≤◌, ◌<◌}
use Rattle.lists.proofs.Kit.{div-add-mod', div-lt_iff_lt-mul, div-le_of_le-mul, mul-le-mul_right}
use Rattle.lists.proofs.Kit.{arith, length, get_or, set, length-set, get_or-set_same, get_or-set_other, eqb, not-true}
use Rattle.lists.proofs.Kit.{ltb-false, eqb-true, eqb-false, ne_eqb}
use Rattle.lists.specs.Pick.{pick}
use Rattle.lists.specs.Tests.{those, count, unused}
use Rattle.lists.specs.Lowest.{lowest}
use Rattle.lists.proofs.Laws.Pick.{by, picks, skips, neither}
use Rattle.lists.proofs.Laws.Some.{some-set}
use Rattle.lists.proofs.Laws.Counts.{lowest-is, count-but-one}
use Rattle.host.specs.Empty.{none}
use Rattle.host.specs.Places.{free_copy}
use Rattle.host.specs.Facts.{Staged}
use Rattle.machine_rules.specs.View.{free_copies}
use Rattle.machine_rules.specs.declared.Setting.{Setting}
use Rattle.machine_rules.specs.Plan.{bad_span}
use Rattle.machine_rules.specs.Effect.{Ground, Staging, new_copy, copied, laid, span_written}
use Rattle.machine_rules.proofs.Laws.Staged.{Free, copy-kept}
use Rattle.host.specs.declared.Progress.{Progress}
use Rattle.machine_rules.specs.Facts.{Lent, Good}

-- ---- positions

pub whole-sectors : (z n : ℕ) → n % z ≡ 0 → n / z * z ≡ n
whole-sectors z n e = omega (arith, div-add-mod' n z)

-- a byte below a whole size lies in a sector below it
pub sector-below : (z at size : ℕ) → 0 < z → size % z ≡ 0 → at < size → at / z < size / z
sector-below z at size pos e lt = (div-lt_iff_lt-mul {k = z} {x = at} {y = size / z} pos).1 (subst (λ (n : ℕ). at < n) (sym (whole-sectors z size e)) lt)

-- a running size within the disk is at most 64 sectors
pub few-sectors : (s : Setting) (p : Progress) → Lent s → Good s p → p.size / s.sector ≤ 64
few-sectors s p L g = div-le_of_le-mul s.sector (omega (arith, g.orderly.within, mul-le-mul_right s.sector L.most))

-- ---- the stage staged

-- a copy of `at`, unless it has one
unfoldable pub copied_map : ℕ → ℕ → List ℕ → List ℕ
copied_map copies at staged = pick (eqb (get_or staged at none) none) (set staged at (lowest (unused staged) 0 copies)) staged

pub copied-map : (z : ℕ) (n : Ground) (at : ℕ) (g : Staging) → (copied z n at g).staged ≡ copied_map n.copies at g.staged
unfolding copied new_copy free_copy copied_map pick
copied-map z n at g = under (eqb (get_or g.staged at none) none) _ _
  where
    under : (b : Bool) (x y : Staging) → (pick b x y).staged ≡ pick b x.staged y.staged
    under true x y = refl
    under false x y = refl

pub written-map : (z : ℕ) (n : Ground) (at : ℕ) (bs : List ℕ) (g : Staging) → (span_written z n at bs g).staged ≡ copied_map n.copies (at / z) g.staged
unfolding span_written laid
written-map z n at bs g = copied-map z n (at / z) g

pub free-slot : (copies : ℕ) (staged : List ℕ) → 0 < count (unused staged) 0 copies → Free copies (lowest (unused staged) 0 copies) staged
free-slot copies staged h = let r = lowest-is (unused staged) 0 copies h in record { below = omega (arith, r.1); unused = not-true _ r.0 }

pub length-copied : (copies at : ℕ) (staged : List ℕ) → length (copied_map copies at staged) ≡ length staged
unfolding copied_map
length-copied copies at staged =
    by (eqb (get_or staged at none) none)
    (λ e. ap length (picks (eqb (get_or staged at none) none) (set staged at (lowest (unused staged) 0 copies)) staged e) ∙ length-set staged at _)
    (λ e. ap length (skips (eqb (get_or staged at none) none) (set staged at (lowest (unused staged) 0 copies)) staged e))

-- how many slots a position asks for
unfoldable pub asks : List ℕ → ℕ → ℕ
asks staged at = pick (eqb (get_or staged at none) none) 1 0

copied-kept : (copies start now at : ℕ) (staged : List ℕ) → copies ≤ 16 → at < now → asks staged at ≤ count (unused staged) 0 copies
    → Staged copies start now staged → Staged copies start now (copied_map copies at staged)
unfolding copied_map asks
copied-kept copies start now at staged few lt h f =
    by (eqb (get_or staged at none) none)
    (λ e. subst (λ (x : List ℕ). Staged copies start now x)
    (sym (picks (eqb (get_or staged at none) none) (set staged at (lowest (unused staged) 0 copies)) staged e))
    (copy-kept copies start few now at _ staged lt (free-slot copies staged (omega (arith, picks {A = ℕ} (eqb (get_or staged at none) none) 1 0 e))) f))
    (λ e. subst (λ (x : List ℕ). Staged copies start now x)
    (sym (skips (eqb (get_or staged at none) none) (set staged at (lowest (unused staged) 0 copies)) staged e)) f)

-- what two positions ask for, one after the other
pub asks-some : (staged : List ℕ) (at : ℕ) → eqb (get_or staged at none) none ≡ true → asks staged at ≡ 1
unfolding asks
asks-some staged at e = picks (eqb (get_or staged at none) none) 1 0 e

asks_none : (staged : List ℕ) (at : ℕ) → eqb (get_or staged at none) none ≡ false → asks staged at ≡ 0
unfolding asks
asks_none staged at e = skips (eqb (get_or staged at none) none) 1 0 e

asks-same : (l m : List ℕ) (at : ℕ) → get_or l at none ≡ get_or m at none → asks l at ≡ asks m at
unfolding asks
asks-same l m at e = ap (λ (x : ℕ). pick {A = ℕ} (eqb x none) 1 0) e

pub copied-new : (copies at : ℕ) (staged : List ℕ) → eqb (get_or staged at none) none ≡ true → copied_map copies at staged
    ≡ set staged at (lowest (unused staged) 0 copies)
unfolding copied_map
copied-new copies at staged e = picks (eqb (get_or staged at none) none) _ staged e

pub copied-old : (copies at : ℕ) (staged : List ℕ) → eqb (get_or staged at none) none ≡ false → copied_map copies at staged ≡ staged
unfolding copied_map
copied-old copies at staged e = skips (eqb (get_or staged at none) none) _ staged e

unused-set : (staged : List ℕ) (at slot j : ℕ) → (j ≡ slot → ⊥) → unused staged j ≡ true → unused (set staged at slot) j ≡ true
unused-set staged at slot j ne h = ap not (some-set (eqb j) staged at slot (not-true _ h) (ne_eqb j slot ne))

pub asks_two : (copies at to : ℕ) (staged : List ℕ) → copies ≤ 16 → at < length staged
    → pick (eqb to at) (asks staged at) (asks staged at + asks staged to) ≤ count (unused staged) 0 copies
    → (asks staged at ≤ count (unused staged) 0 copies) × (asks (copied_map copies at staged) to ≤ count (unused (copied_map copies at staged)) 0 copies)
asks_two copies at to staged few lt h =
    let one : asks staged at ≤ count (unused staged) 0 copies =
    by (eqb to at)
    (λ e. omega (arith, h, picks (eqb to at) (asks staged at) (asks staged at + asks staged to) e))
    (λ e. omega (arith, h, skips (eqb to at) (asks staged at) (asks staged at + asks staged to) e)) in (
      one,
      by (eqb (get_or staged at none) none)
          (λ u. let fr = free-slot copies staged (omega (arith, one, asks-some staged at u)) in
          rw (copied-new copies at staged u)
          (by (eqb to at)
          (λ e. let q = eqb-true to at e in
          let g : get_or (set staged at (lowest (unused staged) 0 copies)) to none ≡ lowest (unused staged) 0 copies =
          ap (λ (x : ℕ). get_or (set staged at (lowest (unused staged) 0 copies)) x none) q ∙ get_or-set_same staged at (lowest (unused staged) 0 copies) none lt in
          let k : eqb (get_or (set staged at (lowest (unused staged) 0 copies)) to none) none ≡ false =
          ne_eqb (get_or (set staged at (lowest (unused staged) 0 copies)) to none) none (λ x. omega (arith, g, fr.below)) in
          omega (arith, asks_none (set staged at (lowest (unused staged) 0 copies)) to k))
          (λ e. omega (
            arith,
            h,
            skips (eqb to at) (asks staged at) (asks staged at + asks staged to) e,
            asks-some staged at u,
            asks-same (set staged at (lowest (unused staged) 0 copies)) staged to
                (get_or-set_other staged at to (lowest (unused staged) 0 copies) none (eqb-false to at e)),
            count-but-one (unused staged) (unused (set staged at (lowest (unused staged) 0 copies))) (lowest (unused staged) 0 copies)
                (unused-set staged at (lowest (unused staged) 0 copies)) 0 copies,
          ))))
          (λ u. rw (copied-old copies at staged u)
          (by (eqb to at)
          (λ e. let q = eqb-true to at e in let k : asks staged to ≡ asks staged at = ap (λ (x : ℕ). asks staged x) q in
          omega (arith, k, asks_none staged at u))
          (λ e. omega (arith, h, skips (eqb to at) (asks staged at) (asks staged at + asks staged to) e)))),
    )

-- ---- what each instruction does to the staged

-- 40 in terms of what positions ask for
pub wanted-one : (staged : List ℕ) (at : ℕ) → length (those (λ n. eqb (get_or staged n none) none) (at ∷ [])) ≡ asks staged at
unfolding those asks pick
wanted-one staged at = under (eqb (get_or staged at none) none)
  where
    under : (b : Bool) → length (pick b (at ∷ []) []) ≡ pick b 1 0
    under true = refl
    under false = refl

pub wanted-two : (staged : List ℕ) (at to : ℕ) → length (those (λ n. eqb (get_or staged n none) none) (at ∷ to ∷ [])) ≡ asks staged at + asks staged to
unfolding those asks pick
wanted-two staged at to = under (eqb (get_or staged at none) none) (eqb (get_or staged to none) none)
  where
    under : (b c : Bool) → length (pick b (at ∷ pick c (to ∷ []) []) (pick c (to ∷ []) [])) ≡ pick b 1 0 + pick c 1 0
    under true true = refl
    under true false = refl
    under false true = refl
    under false false = refl

pub span-in : (z size at n : ℕ) → bad_span z size at n ≡ false → at < size
unfolding bad_span
span-in z size at n e =
    let a = neither _ _ e in
    let b = neither _ _ a.1 in
    let ne = eqb-false n 0 a.0 in
    let le = ltb-false size (at + n) b.0 in
    omega (arith, ne)

module _ (s : Setting) (p : Progress) (start : ℕ) (pos : 0 < s.sector) (few : s.stagesectors ≤ 16) (whole : p.size % s.sector ≡ 0)
    (f : Staged s.stagesectors start (p.size / s.sector) p.staged) where
  pub one_kept : (at : ℕ) → at < p.size → asks p.staged (at / s.sector) ≤ free_copies s p → Staged s.stagesectors start (p.size / s.sector)
      (copied_map s.stagesectors (at / s.sector) p.staged)
  unfolding free_copies
  one_kept at lt h = copied-kept s.stagesectors start (p.size / s.sector) (at / s.sector) p.staged few
      (sector-below s.sector at p.size pos whole lt) h f

  pub two-kept : (at to : ℕ) → at < p.size → to < p.size → p.size / s.sector ≤ length p.staged
      → pick (eqb (to / s.sector) (at / s.sector)) (asks p.staged (at / s.sector))
      (asks p.staged (at / s.sector) + asks p.staged (to / s.sector)) ≤ free_copies s p
      → Staged s.stagesectors start (p.size / s.sector)
      (copied_map s.stagesectors (to / s.sector) (copied_map s.stagesectors (at / s.sector) p.staged))
  unfolding free_copies
  two-kept at to la lt len h =
      let u = sector-below s.sector at p.size pos whole la in
      let v = sector-below s.sector to p.size pos whole lt in
      let q = asks_two s.stagesectors (at / s.sector) (to / s.sector) p.staged few (omega arith) h in
      copied-kept s.stagesectors start (p.size / s.sector) (to / s.sector) _ few v q.1
      (copied-kept s.stagesectors start (p.size / s.sector) (at / s.sector) p.staged few u q.0 f)

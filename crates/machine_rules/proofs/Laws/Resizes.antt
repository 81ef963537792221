-- A change of size keeps the staged positions in order. Assumes nothing.
use Rattle.lists.proofs.Kit.{◌≡◌, refl, sym, ap, ◌∙◌, subst, Bool, true, false, List, [], ◌∷◌, ℕ, zero, suc, ◌+◌, ◌*◌, ◌/◌, ◌%◌, ◌≤◌, ◌<◌}
use Rattle.lists.proofs.Kit.{div-lt_iff_lt-mul, lt_of_mul-lt-mul_right, suc-mul}
use Rattle.lists.proofs.Kit.{le_of_mul-le-mul_right, arith, length, drop, get_or, set, ltb, eqb}
use Rattle.lists.proofs.Kit.{not-false, ltb-true, ltb-false, eqb-true}
use Rattle.lists.specs.Pick.{pick}
use Rattle.lists.specs.Tests.{every, those, unused}
use Rattle.lists.specs.Lowest.{lowest}
use Rattle.lists.proofs.Laws.Pick.{by, picks, skips, both_left, neither}
use Rattle.area.specs.Area.{zeros}
use Rattle.host.specs.Empty.{none}
use Rattle.host.specs.Places.{free_copy}
use Rattle.host.specs.Facts.{Staged}
use Rattle.machine_rules.specs.View.{free_copies, Volume}
use Rattle.machine_rules.specs.declared.Setting.{Setting}
use Rattle.machine_rules.specs.Plan.{bad_size}
use Rattle.machine_rules.specs.Effect.{Ground, ground_of, Staging, new_copy, resized}
use Rattle.machine_rules.proofs.Laws.Staged.{grow-kept, shrink-kept}
use Rattle.host.specs.declared.Progress.{Progress}
use Rattle.machine_rules.proofs.Laws.Copies.{whole-sectors, free-slot, asks, asks-some, wanted-one, wanted-two}

-- ---- Truncate

next-sector : (z a b : ℕ) → 0 < z → a % z ≡ 0 → b % z ≡ 0 → a < b → b ≤ a + z → b / z ≡ suc (a / z)
next-sector z a b pos ea eb lt le =
    let wa = whole-sectors z a ea in
    let wb = whole-sectors z b eb in
    let up : a / z < b / z = lt_of_mul-lt-mul_right z {m = a / z} {n = b / z} (omega arith) in
    let dn : b / z ≤ suc (a / z) = le_of_mul-le-mul_right {m = b / z} {n = suc (a / z)} {k = z} (omega (arith, suc-mul (a / z) z)) pos in
    omega arith

pub past_first : (now : ℕ) (staged : List ℕ) → every (λ n. eqb n none) (drop now staged) ≡ true → eqb (get_or staged now none) none ≡ true
unfolding every
past_first zero [] h = refl
past_first zero (x ∷ xs) h = both_left _ _ h
past_first (suc n) [] h = refl
past_first (suc n) (x ∷ xs) h = past_first n xs h

new-copy-map : (z : ℕ) (n : Ground) (at : ℕ) (bs : List ℕ) (g : Staging) → (new_copy z n at bs g).staged
    ≡ set g.staged at (lowest (unused g.staged) 0 n.copies)
unfolding new_copy free_copy
new-copy-map z n at bs g = refl

pub resized-more : (z : ℕ) (n : Ground) (now to : ℕ) (g : Staging) → ltb now to ≡ true → (resized z n now to g).staged
    ≡ set g.staged (now / z) (lowest (unused g.staged) 0 n.copies)
unfolding resized
resized-more z n now to g e = ap (λ (x : Staging). x.staged) (picks (ltb now to) _ _ e) ∙ new-copy-map z n (now / z) (zeros z) g

pub resized-less : (z : ℕ) (n : Ground) (now to : ℕ) (g : Staging) → ltb now to ≡ false → ltb to now ≡ true → (resized z n now to g).staged
    ≡ set g.staged (to / z) none
unfolding resized
resized-less z n now to g e d = ap (λ (x : Staging). x.staged) (skips (ltb now to) _ _ e ∙ picks (ltb to now) _ _ d)

pub resized-same : (z : ℕ) (n : Ground) (now to : ℕ) (g : Staging) → ltb now to ≡ false → ltb to now ≡ false → (resized z n now to g).staged ≡ g.staged
unfolding resized
resized-same z n now to g e d = ap (λ (x : Staging). x.staged) (skips (ltb now to) _ _ e ∙ skips (ltb to now) _ _ d)

-- what `bad_size` rules out
pub record Sized (z now to : ℕ) : Type 0 where
  pub whole : to % z ≡ 0
  pub up : to ≤ now + z
  pub down : now ≤ to + z

pub sized : (z now to : ℕ) → bad_size z now to ≡ false → Sized z now to
unfolding bad_size
sized z now to e =
    let a = neither _ _ e in
    let b = neither _ _ a.1 in
    record { whole = eqb-true _ _ (not-false _ a.0); up = ltb-false _ _ b.0; down = ltb-false _ _ b.1 }

pub resized-kept : (s : Setting) (vol : Volume) (p : Progress) (start to : ℕ) (bytes : List ℕ) → 0 < s.sector → s.stagesectors ≤ 16 → p.size % s.sector
    ≡ 0
    → Staged s.stagesectors start (p.size / s.sector) p.staged
    → Sized s.sector p.size to → to ≤ length p.staged * s.sector → (ltb p.size to ≡ true → asks p.staged (p.size / s.sector) ≤ free_copies s p)
    → Staged s.stagesectors start (to / s.sector) (resized s.sector (ground_of s vol) p.size to (record { staged = p.staged; bytes = bytes })).staged
unfolding free_copies
resized-kept s vol p start to bytes pos few whole f sz len free =
    let g : Staging = record { staged = p.staged; bytes = bytes } in
    by (ltb p.size to)
    (λ e. let lt = ltb-true p.size to e in
    let nx = next-sector s.sector p.size to pos whole sz.whole lt sz.up in
    let at : p.size / s.sector < length p.staged = (div-lt_iff_lt-mul {k = s.sector} {x = p.size} {y = length p.staged} pos).1 (omega arith) in
    let fr = free-slot s.stagesectors p.staged
    (omega (arith, free e, asks-some p.staged (p.size / s.sector) (past_first (p.size / s.sector) p.staged f.below))) in
    subst (λ (n : ℕ). Staged s.stagesectors start n (resized s.sector (ground_of s vol) p.size to g).staged) (sym nx)
    (subst (λ (m : List ℕ). Staged s.stagesectors start (suc (p.size / s.sector)) m) (sym (resized-more s.sector (ground_of s vol) p.size to g e))
    (grow-kept s.stagesectors start few (p.size / s.sector) _ p.staged at fr f)))
    (λ e. by (ltb to p.size)
    (λ d. let lt = ltb-true to p.size d in
    let nx = next-sector s.sector to p.size pos sz.whole whole lt sz.down in
    subst (λ (m : List ℕ). Staged s.stagesectors start (to / s.sector) m) (sym (resized-less s.sector (ground_of s vol) p.size to g e d))
    (shrink-kept s.stagesectors start few (to / s.sector) p.staged (subst (λ (n : ℕ). Staged s.stagesectors start n p.staged) nx f)))
    (λ d. let q : p.size ≡ to = omega (arith, ltb-false p.size to e, ltb-false to p.size d) in
    subst (λ (m : List ℕ). Staged s.stagesectors start (to / s.sector) m) (sym (resized-same s.sector (ground_of s vol) p.size to g e d))
    (subst (λ (n : ℕ). Staged s.stagesectors start (n / s.sector) p.staged) q f)))

pub swap-asks : (b : Bool) (staged : List ℕ) (at to : ℕ) → length (those (λ n. eqb (get_or staged n none) none) (pick b (at ∷ []) (at ∷ to ∷ [])))
    ≡ pick b (asks staged at) (asks staged at + asks staged to)
unfolding pick
swap-asks true staged at to = wanted-one staged at
swap-asks false staged at to = wanted-two staged at to

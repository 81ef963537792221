-- The slots that a contract keeps at its final size. Assumes nothing.
use Rattle.lists.proofs.Kit.{◌≡◌, sym, ap, ◌∙◌, true, false, not, List, [], ◌∷◌, ◌++◌, ℕ, suc, ◌*◌, ◌/◌, ◌≤◌, ◌<◌, min}
use Rattle.lists.proofs.Kit.{suc-mul, div-add-mod', mod-lt, div-lt_iff_lt-mul, arith, length, take, drop, length-take, take-append-drop}
use Rattle.lists.proofs.Kit.{take-take, ltb, ltb-true, ltb-false}
use Rattle.lists.specs.Tests.{every}
use Rattle.lists.proofs.Laws.Pick.{by, picks, never}
use Rattle.lists.proofs.Laws.Every.{every-none, every-cons}
use Rattle.host.specs.With.{with_size}
use Rattle.host.specs.Places.{has_id, whose, committed}
use Rattle.machine_rules.specs.Commit.{cut}
use Rattle.machine_rules.specs.Visit.{Shaped}
use Rattle.machine_rules.proofs.Laws.Sizes.{whose-here, whose-on}
use Rattle.host.proofs.Laws.Whose.{has-held, committed-held}
use Rattle.host.specs.declared.Place.{Place}

-- ---- kept slots

pub cut-held : (z n : ℕ) (p : Place) → p.held ≡ true → committed z (cut n p) ≡ take (min p.size n / z) p.slots
unfolding cut committed with_size
cut-held z n p e = picks p.held _ [] e

div-less : (z a b : ℕ) → 0 < z → a < suc b * z → a / z ≤ b
div-less z a b pos h = let q : a / z < suc b = (div-lt_iff_lt-mul {k = z} {x = a} {y = suc b} pos).1 h in omega arith

cut-fewer : (z n : ℕ) (p : Place) → 0 < z → (min p.size n / z ≤ p.size / z) × (min p.size n / z ≤ n / z)
cut-fewer z n p pos = (
  div-less z (min p.size n) (p.size / z) pos (omega (arith, suc-mul (p.size / z) z, div-add-mod' p.size z, mod-lt p.size pos)),
  div-less z (min p.size n) (n / z) pos (omega (arith, suc-mul (n / z) z, div-add-mod' n z, mod-lt n pos)),
)

-- a position below both sizes is kept
pub cut-within : (z n m j : ℕ) → 0 < z → j < n / z → j < m / z → j < min m n / z
cut-within z n m j pos lo hi =
    by (ltb j (min m n / z))
    (λ e. ltb-true j (min m n / z) e)
    (λ e. let q : min m n < suc j * z = (div-lt_iff_lt-mul {k = z} {x = min m n} {y = suc j} pos).0 (omega (arith, ltb-false j (min m n / z) e)) in
    by (ltb m (suc j * z))
    (λ u. absurd (let v : m / z < suc j = (div-lt_iff_lt-mul {k = z} {x = m} {y = suc j} pos).1 (ltb-true m (suc j * z) u) in omega arith))
    (λ u. absurd (let v : n / z < suc j = (div-lt_iff_lt-mul {k = z} {x = n} {y = suc j} pos).1 (omega (arith, ltb-false m (suc j * z) u)) in omega arith)))

pub cut-rest : ℕ → ℕ → Place → List ℕ
cut-rest z n p = drop (min p.size n / z) (take (p.size / z) p.slots)

pub cut-prefix : (z n : ℕ) (p : Place) → 0 < z → p.held ≡ true → committed z p ≡ committed z (cut n p) ++ cut-rest z n p
unfolding cut-rest
cut-prefix z n p pos e =
    committed-held z p e
    ∙ sym (take-append-drop (min p.size n / z) (take (p.size / z) p.slots))
    ∙ ap (λ (l : List ℕ). l ++ drop (min p.size n / z) (take (p.size / z) p.slots))
    (take-take (min p.size n / z) (p.size / z) p.slots (cut-fewer z n p pos).0 ∙ sym (cut-held z n p e))

pub cut_most : (z n : ℕ) (p : Place) → 0 < z → p.held ≡ true → length (committed z (cut n p)) ≤ n / z
cut_most z n p pos e = omega (arith, ap length (cut-held z n p e), length-take (min p.size n / z) p.slots, (cut-fewer z n p pos).1)

pub shaped-fore : (l m : List Place) → Shaped (l ++ m) → Shaped l
shaped-fore [] m h = tt
shaped-fore (p ∷ l) m h = (h.0, shaped-fore l m h.1)

pub shaped-aft : (l m : List Place) → Shaped (l ++ m) → Shaped m
shaped-aft [] m h = h
shaped-aft (p ∷ l) m h = shaped-aft l m h.1

-- nothing has the id: nothing is replaced
pub none_of : (id : List ℕ) (ps : List Place) → (whose id ps).held ≡ false → every (λ q. not (has_id id q)) ps ≡ true
none_of id [] h = every-none _
none_of id (p ∷ ps) h =
    by (has_id id p)
    (λ e. never (sym (has-held id p e) ∙ sym (ap (λ (x : Place). x.held) (whose-here id p ps e)) ∙ h))
    (λ e. every-cons _ p ps (ap not e) (none_of id ps (sym (ap (λ (x : Place). x.held) (whose-on id p ps e)) ∙ h)))

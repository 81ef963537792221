-- A sector size that there is, as the record of its facts, and as a number with one bit set within the limits. Assumes nothing.
use Rattle.lists.proofs.Kit.{◌≡◌, refl, sym, ap, ap₂, ◌∙◌, true, false, ℕ, zero, suc, ◌+◌, ◌-◌, ◌*◌, ◌/◌, ◌%◌, ◌^◌, ◌≤◌, ◌<◌}
use Rattle.lists.proofs.Kit.{pow-le-pow_right, two-pow-succ, arith, leb, ltb, eqb, le-leb, leb-true, ltb-true, ltb-false}
use Rattle.lists.proofs.Kit.{eqb-true, eqb-false, eq-eqb}
use mathlib.Core.Bool.{◌&&◌}
use lib.Count.{ones_step}
use lib.Pow.{pow-add}
use Rattle.std.specs.Int.{is_power_of_two}
use Rattle.std.specs.Int.RustNames.{count_ones}
use Rattle.std.proofs.lemmas.Nat.{ones_le_self, zero_from_ones}
use Rattle.lists.proofs.Laws.Pick.{by, never, picks, skips}
use Rattle.area.specs.Slots.{Size}
use Rattle.host.specs.Sizes.{doubled, is_size}

size_is : (z d : ℕ) → d ≤ 10 → z ≡ 4096 * 2 ^ d → Size z
size_is z d h e =
    let least : 2 ^ 0 ≤ 2 ^ d = pow-le-pow_right {n = 2} (omega arith) {i = 0} {j = d} (omega arith) in
    let most : 2 ^ d ≤ 2 ^ 10 = pow-le-pow_right {n = 2} (omega arith) {i = d} {j = 10} h in
    record {
      depth = suc (suc (suc (suc (suc (suc d)))));
      deep = omega arith;
      segments = omega (arith, e);
      least = omega (arith, e, least);
      most = omega (arith, e, most);
    }

size_below : (n z : ℕ) → n ≤ 11 → doubled n z ≡ true → Size z
unfolding doubled
size_below zero z h e = never (sym e)
size_below (suc d) z h e =
    by (eqb z (4096 * 2 ^ d))
    (λ t. size_is z d (omega arith) (eqb-true _ _ t))
    (λ f. size_below d z (omega arith) (sym (skips (eqb z (4096 * 2 ^ d)) true (doubled d z) f) ∙ e))

-- a number that passes has the facts
pub size-facts : (z : ℕ) → is_size z ≡ true → Size z
unfolding is_size
size-facts z e = size_below 11 z (omega arith) e

doubled-is : (n d z : ℕ) → d < n → z ≡ 4096 * 2 ^ d → doubled n z ≡ true
unfolding doubled
doubled-is zero d z h e = absurd (omega arith)
doubled-is (suc n) d z h e =
    by (eqb d n)
    (λ t. picks _ _ _ (eq-eqb _ _ (e ∙ ap (λ (k : ℕ). 4096 * 2 ^ k) (eqb-true _ _ t))))
    (λ f. let lt : d < n = omega (arith, eqb-false d n f) in
    let rest : doubled n z ≡ true = doubled-is n d z lt e in by (eqb z (4096 * 2 ^ n)) (λ t. picks _ _ _ t) (λ t. skips _ _ _ t ∙ rest))

-- and a power of two within the limits passes
pub power_size : (z d : ℕ) → z ≡ 2 ^ d → 4096 ≤ z → z ≤ 4194304 → is_size z ≡ true
unfolding is_size
power_size z d e least most =
    let low : 11 < d = by (ltb 11 d) (λ t. ltb-true 11 d t) (λ f.
    let le : d ≤ 11 = ltb-false 11 d f in absurd (omega (arith, e, least, pow-le-pow_right {n = 2} (omega arith) {i = d} {j = 11} le))) in
    let high : d < 23 = by (ltb d 23) (λ t. ltb-true d 23 t) (λ f.
    let le : 23 ≤ d = ltb-false d 23 f in absurd (omega (arith, e, most, pow-le-pow_right {n = 2} (omega arith) {i = 23} {j = d} le))) in
    let sum : d ≡ 12 + (d - 12) = omega (arith, low) in
    let few : d - 12 < 11 = omega (arith, high) in
    doubled-is 11 (d - 12) z few (e ∙ ap (λ (k : ℕ). 2 ^ k) sum ∙ pow-add 2 12 (d - 12))

-- and so does a number with the facts
pub facts-size : (z : ℕ) → Size z → is_size z ≡ true
facts-size z s = power_size z (6 + s.depth) (s.segments ∙ sym (pow-add 2 6 s.depth)) s.least s.most

-- ---- one bit

-- a number with one bit set is a power of two
power_of : (k n : ℕ) → n < 2 ^ k → count_ones n ≡ 1 → (j : ℕ) × (n ≡ 2 ^ j)
power_of zero n h e = absurd (omega (arith, ones_le_self n))
power_of (suc k) n h e =
    by (eqb (n % 2) 0)
    (λ t.
    let even : n % 2 ≡ 0 = eqb-true _ _ t in
    let half : n / 2 < 2 ^ k = omega (arith, h, two-pow-succ k) in
    let more : (j : ℕ) × (n / 2 ≡ 2 ^ j) = power_of k (n / 2) half (omega (arith, e, ones_step n, even)) in
    (suc more.0, omega (arith, more.1, even, two-pow-succ more.0)))
    (λ f.
    let none : count_ones (n / 2) ≡ 0 = omega (arith, e, ones_step n, eqb-false _ _ f) in
    (0, omega (arith, zero_from_ones (n / 2) none, eqb-false _ _ f)))

-- and a power of two has one
one-bit : (k : ℕ) → count_ones (2 ^ k) ≡ 1
unfolding count_ones
one-bit zero = refl
one-bit (suc k) =
    let double : 2 ^ suc k ≡ 2 * 2 ^ k = omega (arith, two-pow-succ k) in
    let half : 2 ^ suc k / 2 ≡ 2 ^ k = omega (arith, double) in
    omega (arith, ones_step (2 ^ suc k), one-bit k, ap count_ones half, double)

-- a power of two is a size exactly within the limits
pub sized : (z : ℕ) → z < 2 ^ 64 → is_power_of_two z ≡ true → (leb 4096 z && leb z 4194304) ≡ is_size z
sized z h e =
    let power : (j : ℕ) × (z ≡ 2 ^ j) = power_of 64 z h (eqb-true _ _ e) in
    by (is_size z)
    (λ t. let s : Size z = size-facts z t in ap₂ (λ a b. a && b) (le-leb 4096 z s.least) (le-leb z 4194304 s.most) ∙ sym t)
    (λ f. by (leb 4096 z)
    (λ l. by (leb z 4194304)
    (λ m. never (sym (power_size z power.0 power.1 (leb-true _ _ l) (leb-true _ _ m)) ∙ f))
    (λ m. ap₂ (λ a b. a && b) l m ∙ sym f))
    (λ l. ap (λ a. a && leb z 4194304) l ∙ sym f))

-- and no other number is one
pub unsized : (z : ℕ) → is_power_of_two z ≡ false → false ≡ is_size z
unsized z e =
    by (is_size z)
    (λ t. let s : Size z = size-facts z t in
    let power : z ≡ 2 ^ (6 + s.depth) = s.segments ∙ sym (pow-add 2 6 s.depth) in
    absurd (eqb-false _ _ e (ap count_ones power ∙ one-bit (6 + s.depth))))
    (λ f. sym f)

-- Sums tested by what is left, so that none can wrap. Assumes nothing.
use mathlib.Core.Path.{◌≡◌, sym, ◌∙◌}
use mathlib.Core.Bool.{false}
use Prim.Native.Nat.{ℕ, ◌+◌, ◌-◌, ◌≤◌, ◌<◌}
use native.Mathlib.Omega.{arith}
use lib.Dec.{leb, ltb}
use borrow.Author.Tests.{leb-true, leb-false, le-leb, lt-leb, ltb-true, ltb-false, lt-ltb, le-ltb}
use Rattle.lists.proofs.Laws.Pick.{by}

-- one of two parts is above the limit by itself
pub above-first : (limit s o : ℕ) → limit < s → false ≡ leb (s + o) limit
above-first limit s o h = sym (lt-leb (s + o) limit (omega arith))

pub above : (limit o s : ℕ) → limit < o → false ≡ leb (s + o) limit
above limit o s h = sym (lt-leb (s + o) limit (omega arith))

-- the rest of the sum against the rest of the limit
pub left_over : (limit o s : ℕ) → o ≤ limit → leb s (limit - o) ≡ leb (s + o) limit
left_over limit o s h = by (leb s (limit - o))
    (λ u. u ∙ sym (le-leb (s + o) limit (omega (arith, leb-true s (limit - o) u))))
    (λ u. u ∙ sym (lt-leb (s + o) limit (omega (arith, leb-false s (limit - o) u))))

-- what is left of a limit against a sum
pub rest-less : (limit one n : ℕ) → one ≤ limit → ltb (limit - one) n ≡ ltb limit (one + n)
rest-less limit one n h =
    by (ltb (limit - one) n)
    (λ e. e ∙ sym (lt-ltb limit (one + n) (omega (arith, ltb-true (limit - one) n e))))
    (λ e. e ∙ sym (le-ltb limit (one + n) (omega (arith, ltb-false (limit - one) n e))))

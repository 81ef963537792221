-- Going down a chain of cases, and down two side by side. Assumes nothing.
use mathlib.Core.Path.{◌≡◌, refl, sym, ap, subst, ◌∙◌}
use mathlib.Core.Bool.{Bool, true, false}
use Prim.Native.Nat.{ℕ}
use Rattle.lists.specs.Pick.{pick}
use Rattle.lists.proofs.Laws.Pick.{by, picks, skips}

-- down a case: what holds of both ways holds of the choice
pub either_way : {R : Type 0} (K : R → Type 0) (b : Bool) (x y : R) → (b ≡ true → K x) → (b ≡ false → K y) → K (pick b x y)
unfolding pick
either_way K true x y f g = f refl
either_way K false x y f g = g refl

-- a refusal that did not apply
pub passes : {R : Type 0} (number : R → ℕ) (b : Bool) (x r : R) → (number x ≡ 0 → ⊥) → number (pick b x r) ≡ 0
    → (b ≡ false) × (number r ≡ 0) × (pick b x r ≡ r)
unfolding pick
passes number true x r some e = absurd (some e)
passes number false x r some e = (refl, e, refl)

-- ---- two chains

-- where the tests are the same, only what stands behind them matters, or ahead of them
pub behind : {R : Type 0} (b : Bool) (x y w : R) → (b ≡ false → y ≡ w) → pick b x y ≡ pick b x w
behind b x y w f = by b (λ u. picks b x y u ∙ sym (picks b x w u)) (λ u. skips b x y u ∙ f u ∙ sym (skips b x w u))

pub ahead : {R : Type 0} (b : Bool) (x y w : R) → (b ≡ true → x ≡ y) → pick b x w ≡ pick b y w
ahead b x y w f = by b (λ u. picks b x w u ∙ f u ∙ sym (picks b y w u)) (λ u. skips b x w u ∙ sym (skips b y w u))

-- down a case: f is what an answer of the one becomes in the other
pub down : {R : Type 0} (f : R → R) (b c : Bool) (x y u v : R) → b ≡ c → (c ≡ true → x ≡ f u) → (c ≡ false → y ≡ f v)
    → pick b x y ≡ f (pick c u v)
unfolding pick
down f b true x y u v e g h = ap (λ (a : Bool). pick a x y) e ∙ g refl
down f b false x y u v e g h = ap (λ (a : Bool). pick a x y) e ∙ h refl

-- the same of answers that are related
pub downs : {R : Type 0} (K : R → R → Type 0) (b c : Bool) (x y u v : R) → b ≡ c → (c ≡ true → K x u) → (c ≡ false → K y v)
    → K (pick b x y) (pick c u v)
unfolding pick
downs K b true x y u v e g h = subst (λ (a : Bool). K (pick a x y) u) (sym e) (g refl)
downs K b false x y u v e g h = subst (λ (a : Bool). K (pick a x y) v) (sym e) (h refl)

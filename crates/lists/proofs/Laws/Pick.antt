-- Walking down a chain of cases: `yes` where the code's test held, `no` where it did not. Assumes nothing.
use mathlib.Core.Path.{◌≡◌, refl, sym, ap, ◌∙◌}
use mathlib.Core.Bool.{Bool, true, false, not}
use Prim.Native.Nat.{ℕ}
use native.Mathlib.Omega.{arith}
use Rattle.lists.specs.Pick.{pick, both, either}

pub picks : {A : Type 0} (b : Bool) (x y : A) → b ≡ true → pick b x y ≡ x
unfolding pick
picks b x y p = rw p

pub skips : {A : Type 0} (b : Bool) (x y : A) → b ≡ false → pick b x y ≡ y
unfolding pick
skips b x y p = rw p

pub yes : {A : Type 0} (b : Bool) (x y : A) {r : A} → b ≡ true → r ≡ x → r ≡ pick b x y
yes b x y p e = e ∙ sym (picks b x y p)

pub no : {A : Type 0} (b : Bool) (x y : A) {r : A} → b ≡ false → r ≡ y → r ≡ pick b x y
no b x y p e = e ∙ sym (skips b x y p)

-- either way
pub by : {C : Type 0} (b : Bool) → (b ≡ true → C) → (b ≡ false → C) → C
by true f g = f refl
by false f g = g refl

-- a test that both holds and does not
pub never : {C : Type 0} → true ≡ false → C
never e = absurd (let r : ◌≡◌ {A = ℕ} 0 1 = cc in omega arith)

-- ---- both and either

pub both-join : (a b : Bool) → a ≡ true → b ≡ true → both a b ≡ true
both-join a b p q = picks a b false p ∙ q

pub both_left : (a b : Bool) → both a b ≡ true → a ≡ true
unfolding pick
both_left true b e = refl
both_left false b e = never (sym e)

pub both_right : (a b : Bool) → both a b ≡ true → b ≡ true
unfolding pick
both_right true b e = e
both_right false b e = never (sym e)

pub both-not-left : (a b : Bool) → a ≡ false → both a b ≡ false
both-not-left a b p = skips a b false p

pub both-not-right : (a b : Bool) → b ≡ false → both a b ≡ false
unfolding pick
both-not-right true b q = q
both-not-right false b q = refl

pub both-last : (a b : Bool) → b ≡ true → both a b ≡ a
unfolding pick
both-last true b q = q
both-last false b q = refl

pub either-join : (a b : Bool) → a ≡ false → b ≡ false → either a b ≡ false
either-join a b p q = skips a true b p ∙ q

pub either_left : (a b : Bool) → either a b ≡ false → a ≡ false
unfolding pick
either_left true b e = never e
either_left false b e = refl

pub either-right : (a b : Bool) → either a b ≡ false → b ≡ false
unfolding pick
either-right true b e = never e
either-right false b e = e

pub neither : (a b : Bool) → either a b ≡ false → (a ≡ false) × (b ≡ false)
neither a b e = (either_left a b e, either-right a b e)

-- the second, wherever the first does not hold
pub either-else : (a b : Bool) → (a ≡ false → b ≡ true) → either a b ≡ true
either-else a b f = by a (λ u. picks a true b u) (λ u. skips a true b u ∙ f u)

pub or_right : (a b : Bool) → b ≡ true → either a b ≡ true
or_right a b e = either-else a b (λ u. e)

pub either_second : (a b : Bool) → either a b ≡ true → a ≡ false → b ≡ true
either_second a b e f = sym (skips a true b f) ∙ e

pub second-not : (a b : Bool) → either (not a) b ≡ true → a ≡ true → b ≡ true
second-not a b e f = either_second (not a) b e (ap not f)

pub not-both : (a : Bool) {b : Bool} → both a b ≡ false → b ≡ true → a ≡ false
not-both a e h = by a (λ u. never (sym (both-join a _ u h) ∙ e)) (λ u. u)

pub both-both : (a b c : Bool) → both a (both b c) ≡ both (both a b) c
unfolding pick
both-both true b c = refl
both-both false b c = refl

pub either-swap : (a b c : Bool) → either a (either b c) ≡ either b (either a c)
unfolding pick
either-swap true true c = refl
either-swap true false c = refl
either-swap false b c = refl

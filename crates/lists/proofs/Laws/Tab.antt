-- Lists by their index, and an array that a loop fills from the front. Assumes nothing.
use mathlib.Core.Path.{◌≡◌, refl, sym, ap, ap₂, ◌∙◌}
use mathlib.Core.Bool.{Bool, true, false}
use mathlib.Core.List.{List, [], ◌∷◌, ◌++◌}
use Prim.Native.Nat.{ℕ, zero, suc, ◌+◌, ◌-◌, ◌≤◌, ◌<◌}
use native.Mathlib.Numerals.{add-one}
use native.Mathlib.Omega.{arith}
use lib.ListN.{length, take, get_or, set}
use lib.Seq.{take-suc-set, take_all}
use Rattle.lists.specs.Tests.{every}
use Rattle.lists.specs.Tab.{tab}
use Rattle.lists.proofs.Laws.Pick.{yes, no, both_left, both_right, both-join}

pub length-tab : {A : Type 0} (i n : ℕ) (f : ℕ → A) → length (tab i n f) ≡ n
unfolding tab
length-tab i zero f = refl
length-tab i (suc n) f = ap suc (length-tab (suc i) n f)

pub get_or-tab : {A : Type 0} (i n : ℕ) (f : ℕ → A) (k : ℕ) (d : A) → k < n → get_or (tab i n f) k d ≡ f (i + k)
unfolding tab
get_or-tab i zero f k d h = absurd (omega arith)
get_or-tab i (suc n) f zero d h = ap f (let e : i ≡ i + 0 = omega arith in e)
get_or-tab i (suc n) f (suc k) d h = get_or-tab (suc i) n f k d (omega arith) ∙ ap f (let e : suc i + k ≡ i + suc k = omega arith in e)

-- one more at the end
pub tab-snoc : {A : Type 0} (i n : ℕ) (f : ℕ → A) → tab i (suc n) f ≡ tab i n f ++ (f (i + n) ∷ [])
unfolding tab
tab-snoc i zero f = ap (λ x. x ∷ []) (ap f (let e : i ≡ i + 0 = omega arith in e))
tab-snoc i (suc n) f =
    ap (λ l. f i ∷ l)
    (tab-snoc (suc i) n f ∙ ap (λ (k : ℕ). tab (suc i) n f ++ (f k ∷ [])) (let e : suc i + n ≡ i + suc n = omega arith in e))

-- fewer of them
pub take-tab : {A : Type 0} (f : ℕ → A) (k i n : ℕ) → k ≤ n → take k (tab i n f) ≡ tab i k f
unfolding tab
take-tab f zero i n h = refl
take-tab f (suc k) i zero h = absurd (omega arith)
take-tab f (suc k) i (suc n) h = ap (λ l. f i ∷ l) (take-tab f k (suc i) n (omega arith))

pub tab-alike : {A : Type 0} (f g : ℕ → A) (i n : ℕ) → ((j : ℕ) → j < i + n → f j ≡ g j) → tab i n f ≡ tab i n g
unfolding tab
tab-alike f g i zero e = refl
tab-alike f g i (suc n) e = ap₂ (λ x l. x ∷ l) (e i (omega arith)) (tab-alike f g (suc i) n (λ j h. e j (omega arith)))

-- ---- the loop: the first i places of l are filled

pub fill_none : {A : Type 0} (l : List A) (f : ℕ → A) → take 0 l ≡ tab 0 0 f
unfolding tab
fill_none l f = refl

pub fill_one : {A : Type 0} (l : List A) (f : ℕ → A) (i n : ℕ) {v : A} → length l ≡ n → i < n → v ≡ f i → take i l ≡ tab 0 i f
    → take (i + 1) (set l i v) ≡ tab 0 (i + 1) f
fill_one l f i n {v} e h w p =
    ap (λ (k : ℕ). take k (set l i v)) (add-one i)
    ∙ take-suc-set l i v (omega arith)
    ∙ (λ x. p x ++ (w x ∷ []))
    ∙ sym (tab-snoc 0 i f ∙ ap (λ (k : ℕ). tab 0 i f ++ (f k ∷ [])) (let e : 0 + i ≡ i = omega arith in e))
    ∙ ap (λ (k : ℕ). tab 0 k f) (sym (add-one i))

pub fill-all : {A : Type 0} (l : List A) (f : ℕ → A) (i n : ℕ) → length l ≡ n → i ≤ n → n ≤ i → take i l ≡ tab 0 i f → l ≡ tab 0 n f
fill-all l f i n e g h p =
    sym (take_all i l (omega arith)) ∙ p ∙ ap (λ (k : ℕ). tab 0 k f) (let e : i ≡ n = omega arith in e)

-- ---- every one passes a test

module _ {A : Type 0} (p : A → Bool) (f : ℕ → A) where
  pub every-tab : (i n : ℕ) → ((j : ℕ) → i ≤ j → j < i + n → p (f j) ≡ true) → every p (tab i n f) ≡ true
  unfolding every tab
  every-tab i zero g = refl
  every-tab i (suc n) g = both-join _ _ (g i (omega arith) (omega arith)) (every-tab (suc i) n (λ j lo hi. g j (omega arith) (omega arith)))

  pub tab-at : (i n k : ℕ) → k < n → every p (tab i n f) ≡ true → p (f (i + k)) ≡ true
  unfolding every tab
  tab-at i zero k h e = absurd (omega arith)
  tab-at i (suc n) zero h e = ap (λ (j : ℕ). p (f j)) (let q : i + 0 ≡ i = omega arith in q) ∙ both_left _ _ e
  tab-at i (suc n) (suc k) h e =
      ap (λ (j : ℕ). p (f j)) (let q : i + suc k ≡ suc i + k = omega arith in q) ∙ tab-at (suc i) n k (omega arith) (both_right _ _ e)

  -- the loop: those below i were looked at
  pub tab-stops : (i n : ℕ) → i < n → p (f i) ≡ false → false ≡ every p (tab i (n - i) f)
  unfolding every tab
  tab-stops i n h e = let k : n - i ≡ suc (n - (i + 1)) = omega arith in rw k (no _ _ _ e refl)

  pub tab-further : (i n : ℕ) → i < n → p (f i) ≡ true → every p (tab i (n - i) f) ≡ every p (tab (i + 1) (n - (i + 1)) f)
  unfolding every tab
  tab-further i n h e = let k : n - i ≡ suc (n - (i + 1)) = omega arith in rw (k, add-one i) (sym (yes _ _ _ e refl))

  pub tab-done : (i n : ℕ) → n ≤ i → true ≡ every p (tab i (n - i) f)
  unfolding every tab
  tab-done i n h = let k : n - i ≡ 0 = omega arith in rw k

-- What the decoders tell of one input: a key, a number, or data behind their count. Assumes nothing.
use Rattle.lists.proofs.Kit.{◌≡◌, refl, sym, ap, ◌∙◌, Bool, true, false, List, ℕ, ◌-◌, ◌≤◌, length, take, length-take-le, leb-true, le-leb, eq-eqb, ne_eqb}
use Rattle.std.specs.Prelude.{Option}
use Rattle.lists.specs.Pick.{pick}
use Rattle.lists.proofs.Laws.Pick.{yes, no, by, picks, skips, both-join, both_left, both-not-right}
use Rattle.area.specs.Area.{part}
use Rattle.area.specs.Little.{value_of}
use Rattle.sia.specs.Number.{Decoded, decoded, number, number_given}
use Rattle.machine_rules.specs.Inputs.{is_told, told, is_number, is_key, is_data}
use Rattle.machine_inputs.specs.Given.{key_of, data_of}
use Rattle.machine_inputs.specs.Given.{Key}

-- an answer that says whether the test held
pub tells-test : {A : Type 0} (told : A → Bool) (b : Bool) (x y : A) → told x ≡ true → told y ≡ false → told (pick b x y) ≡ b
tells-test told b x y u v = by b (λ e. ap told (picks b x y e) ∙ u ∙ sym e) (λ e. ap told (skips b x y e) ∙ v ∙ sym e)

-- what a decoder's answer stands for
pub tells : {r x : Option ℕ} {d : Decoded} → number_given r ≡ d → r ≡ x → d ≡ number_given x
tells e q = sym e ∙ ap number_given q

-- ---- keys

pub key-told : (b : List ℕ) (k : Key) → k ≡ key_of b → k.told ≡ is_key b
unfolding key_of
key-told b k e = ap (λ (x : Key). x.told) e ∙ tells-test (λ (x : Key). x.told) _ _ _ refl refl

pub key-bytes : (b : List ℕ) (k : Key) → k ≡ key_of b → is_key b ≡ true → k.bytes ≡ b
unfolding key_of
key-bytes b k e u = ap (λ (x : Key). x.bytes) (e ∙ picks _ _ _ u)

-- ---- numbers

module _ (b : List ℕ) where
  pub number-refused : number b ≡ decoded 23 0 → is_number b ≡ false
  unfolding is_number is_told
  number-refused e = ap is_told e

  pub number-told : (n : ℕ) → number b ≡ decoded 0 n → is_number b ≡ true
  unfolding is_number is_told
  number-told n e = ap is_told e

  pub number-value : (n : ℕ) → number b ≡ decoded 0 n → n ≡ told (number b)
  unfolding told
  number-value n e = sym (ap told e)

  -- ---- data

  data_is : is_told (data_of b) ≡ is_data b
  unfolding data_of is_told
  data_is = tells-test is_told _ _ _ refl refl

  pub data-refused : data_of b ≡ decoded 23 0 → is_data b ≡ false
  unfolding is_told
  data-refused e = sym data_is ∙ ap is_told e

  pub data-told : (n : ℕ) → data_of b ≡ decoded 0 n → is_data b ≡ true
  unfolding is_told
  data-told n e = sym data_is ∙ ap is_told e

  pub data-value : (n : ℕ) → data_of b ≡ decoded 0 n → n ≡ length b - 8
  unfolding data_of
  data-value n e = ap (λ (d : Decoded). d.value) (sym e ∙ picks (is_data b) _ _ (data-told n e))

  pub data-long : is_data b ≡ true → 8 ≤ length b
  unfolding is_data
  data-long e = leb-true _ _ (both_left _ _ e)

  module _ (v : ℕ) (long : 8 ≤ length b) (loaded : v ≡ value_of (part b 0 8)) where
    count-told : told (number (take 8 b)) ≡ v
    unfolding told number part
    count-told = ap told (picks _ _ _ (eq-eqb _ _ (length-take-le 8 b long))) ∙ sym loaded

    -- the count is not the rest's length
    pub data-other : (v ≡ length b - 8 → ⊥) → decoded 23 0 ≡ data_of b
    unfolding data_of is_data
    data-other n = no _ _ _ (both-not-right _ _ (ne_eqb _ _ (λ q. n (sym count-told ∙ q)))) refl

    pub data-right : v ≡ length b - 8 → decoded 0 (length b - 8) ≡ data_of b
    unfolding data_of is_data
    data-right q = yes _ _ _ (both-join _ _ (le-leb _ _ long) (eq-eqb _ _ (count-told ∙ q))) refl

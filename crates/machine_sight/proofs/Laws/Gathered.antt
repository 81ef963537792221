-- An array that a loop fills with pieces of one length: those of the first i stand at its front. Assumes nothing.
use Rattle.lists.proofs.Kit.{◌≡◌, refl, sym, ap, ◌∙◌, List, [], ◌∷◌, ◌++◌, append-nil, ℕ, ◌+◌, ◌*◌, ◌≤◌, arith, length, take}
use native.Mathlib.Numerals.{add-one}
use Rattle.lists.specs.Tab.{tab}
use Rattle.lists.proofs.Laws.Tab.{tab-snoc}
use Rattle.area.specs.Area.{part, put}
use Rattle.area.proofs.Laws.Parts.{part-whole}
use Rattle.area.proofs.Laws.Puts.{take_put}
use Rattle.sia.specs.Encode.{joined}
use Rattle.sia.proofs.Laws.Joined.{joined-append}

module _ {A : Type 0} (f : A → List ℕ) (g : ℕ → A) where
  one_more : (i : ℕ) → joined f (tab 0 (i + 1) g) ≡ joined f (tab 0 i g) ++ f (g i)
  unfolding joined
  one_more i =
      ap (λ (n : ℕ). joined f (tab 0 n g)) (add-one i)
      ∙ ap (joined f) (tab-snoc 0 i g)
      ∙ joined-append f (tab 0 i g) (g (0 + i) ∷ [])
      ∙ ap (λ (bs : List ℕ). joined f (tab 0 i g) ++ bs) (append-nil (f (g (0 + i))))
      ∙ ap (λ (n : ℕ). joined f (tab 0 i g) ++ f (g n)) (let e : 0 + i ≡ i = omega arith in e)

  pub none-gathered : [] ≡ joined f (tab 0 0 g)
  unfolding joined tab
  none-gathered = refl

  -- piece r of k bytes is copied whole
  pub one-gathered : {b r : List ℕ} (a : List ℕ) (k i : ℕ) → length r ≡ k → k * i + k ≤ length a → r ≡ f (g i)
      → take (k * i) a ≡ joined f (tab 0 i g) → b ≡ put a (k * i) (part r 0 k) → take (k * (i + 1)) b ≡ joined f (tab 0 (i + 1) g)
  one-gathered {b} {r} a k i long room e q w =
      let next : k * (i + 1) ≡ k * i + length r = omega (arith, long) in
      ap (take (k * (i + 1))) (w ∙ ap (put a (k * i)) (part-whole r k (sym long)))
      ∙ take_put a (k * i) r (k * (i + 1)) next (omega (arith, long))
      ∙ (λ j. q j ++ e j)
      ∙ sym (one_more i)

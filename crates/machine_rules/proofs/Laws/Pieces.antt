-- Pieces of one length, one after another: each is a part of all. Assumes nothing.
use Rattle.lists.proofs.Kit.{◌≡◌, sym, ap, ◌∙◌, Bool, true, List, [], ◌∷◌, ◌++◌, ℕ, zero, suc, ◌+◌, ◌*◌, ◌<◌, suc-mul, zero-mul, arith, length, take, drop}
use Rattle.lists.proofs.Kit.{get_or, length-append, take_at, drop-append-add}
use Rattle.lists.specs.Tests.{every}
use Rattle.lists.proofs.Laws.Pick.{both_left, both_right}
use Rattle.area.specs.Area.{part}
use Rattle.sia.specs.Encode.{joined}

module _ {A : Type 0} (p : A → Bool) (f : A → List ℕ) (k : ℕ) (long : (x : A) → p x ≡ true → length (f x) ≡ k) where
  pub length-pieces : (l : List A) → every p l ≡ true → length (joined f l) ≡ length l * k
  unfolding joined every
  length-pieces [] h = sym (zero-mul k)
  length-pieces (x ∷ xs) h =
      omega (arith, length-append (f x) (joined f xs), long x (both_left _ _ h), length-pieces xs (both_right _ _ h), suc-mul (length xs) k)

  -- piece i of all
  pub part-pieces : (l : List A) (i : ℕ) (d : A) → every p l ≡ true → i < length l → part (joined f l) (i * k) k ≡ f (get_or l i d)
  unfolding joined every part
  part-pieces [] i d h lt = absurd (omega arith)
  part-pieces (x ∷ xs) zero d h lt =
      ap (λ (n : ℕ). take k (drop n (f x ++ joined f xs))) (zero-mul k) ∙ take_at (f x) (joined f xs) k (long x (both_left _ _ h))
  part-pieces (x ∷ xs) (suc i) d h lt =
      let e : suc i * k ≡ length (f x) + i * k = omega (arith, suc-mul i k, long x (both_left _ _ h)) in
      ap (λ (n : ℕ). take k (drop n (f x ++ joined f xs))) e
      ∙ ap (take k) (drop-append-add (f x) (joined f xs) (i * k))
      ∙ part-pieces xs i d (both_right _ _ h) (omega arith)

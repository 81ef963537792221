-- A message of 65 bytes: which way it goes, the words of its one block, and the digest of 32 bytes. Assumes nothing.
use Rattle.lists.proofs.Kit.{◌≡◌, refl, sym, ap, ◌∙◌, true, List, [], ◌∷◌, ◌++◌, ℕ, ◌+◌, ◌≤◌, arith, length, get_or, take, eqb, eqb-true}
use Rattle.lists.specs.Pick.{both}
use Rattle.lists.specs.Tab.{tab}
use Rattle.lists.proofs.Laws.Pick.{both_left, both_right}
use Rattle.area.specs.Area.{part, zeros}
use Rattle.area.specs.Little.{value_of}
use Rattle.area.proofs.Laws.Parts.{part-one, part-add}
use Rattle.blake2b.specs.Compression.{words}
use Rattle.blake2b.specs.Blake2b.{bytes, padded, finished, start, blake2b}
use Rattle.blake2b.proofs.Laws.Data.{padded-inside, padded-behind, unkeyed, by_blocks}

-- ---- which way it goes

pub record Straight (nn kk ll : ℕ) : Type 0 where
  pub digest : nn ≡ 32
  pub key : kk ≡ 0
  pub message : ll ≡ 65

pub tells : (nn kk ll : ℕ) → both (eqb nn 32) (both (eqb kk 0) (eqb ll 65)) ≡ true → Straight nn kk ll
tells nn kk ll e =
    let rest : both (eqb kk 0) (eqb ll 65) ≡ true = both_right _ _ e in
    record {
      digest = eqb-true _ _ (both_left _ _ e);
      key = eqb-true _ _ (both_left _ _ rest);
      message = eqb-true _ _ (both_right _ _ rest);
    }

-- ---- the words

module _ (bs : List ℕ) (e : length bs ≡ 65) where
  -- a word that the message fills
  full : (at : ℕ) {w : ℕ} → at + 8 ≤ 65 → w ≡ value_of (part bs at 8) → w ≡ value_of (part (padded bs) at 8)
  full at h p = p ∙ ap value_of (sym (padded-inside bs at 8 (omega arith) (omega arith)))

  -- the word that its last byte begins
  begun : {w : ℕ} → w ≡ get_or bs 64 0 → w ≡ value_of (part (padded bs) 64 8)
  unfolding part value_of
  begun {w} p =
      let x : ℕ = get_or bs 64 0 in
      let byte : part (padded bs) 64 1 ≡ x ∷ [] = padded-inside bs 64 1 (omega arith) (omega arith) ∙ part-one bs 64 (omega arith) in
      let rest : part (padded bs) 65 7 ≡ zeros 7 = padded-behind bs 65 7 (omega arith) (omega arith) in
      let value : x ≡ value_of (x ∷ zeros 7) = omega arith in
      p ∙ value ∙ ap value_of (sym (part-add (padded bs) 64 1 7 ∙ (λ i. byte i ++ rest i)))

  -- a word of zeros behind it
  none : (at : ℕ) → 65 ≤ at → value_of (part (zeros 128) at 8) ≡ 0 → 0 ≡ value_of (part (padded bs) at 8)
  none at h p = sym (ap value_of (padded-behind bs at 8 (omega arith) (omega arith)) ∙ p)

  pub block_words : {a b c d f g i j k : ℕ} → a ≡ value_of (part bs 0 8) → b ≡ value_of (part bs 8 8) → c ≡ value_of (part bs 16 8)
      → d ≡ value_of (part bs 24 8) → f ≡ value_of (part bs 32 8) → g ≡ value_of (part bs 40 8) → i ≡ value_of (part bs 48 8)
      → j ≡ value_of (part bs 56 8) → k ≡ get_or bs 64 0
      → a ∷ b ∷ c ∷ d ∷ f ∷ g ∷ i ∷ j ∷ k ∷ 0 ∷ 0 ∷ 0 ∷ 0 ∷ 0 ∷ 0 ∷ 0 ∷ [] ≡ words (padded bs)
  unfolding words tab part value_of
  block_words pa pb pc pd pf pg pi pj pk =
      λ x. full 0 (omega arith) pa x ∷ full 8 (omega arith) pb x ∷ full 16 (omega arith) pc x ∷ full 24 (omega arith) pd x
      ∷ full 32 (omega arith) pf x ∷ full 40 (omega arith) pg x ∷ full 48 (omega arith) pi x ∷ full 56 (omega arith) pj x ∷ begun pk x
      ∷ none 72 (omega arith) refl x ∷ none 80 (omega arith) refl x ∷ none 88 (omega arith) refl x ∷ none 96 (omega arith) refl x
      ∷ none 104 (omega arith) refl x ∷ none 112 (omega arith) refl x ∷ none 120 (omega arith) refl x ∷ []

-- ---- the digest

-- what it is the digest of
pub straight-is : {r : List ℕ} (nn : ℕ) (key message : List ℕ) → Straight nn (length key) (length message)
    → r ≡ take 32 (bytes (finished message (start 32 0))) → r ≡ blake2b nn key message
straight-is nn key message s p =
    let n : 32 ≡ nn = sym s.digest in
    let k : 0 ≡ length key = sym s.key in
    by_blocks nn key message (λ i. start (n i) (k i)) (unkeyed key message (start 32 0) s.key refl)
    (p ∙ ap (λ (l : ℕ). take l (bytes (finished message (start 32 0)))) n)

-- Staged sectors copied back: a slot that none goes to keeps its bytes, and every other holds its sector. Assumes nothing.
use Rattle.lists.proofs.Kit.{◌≡◌, refl, sym, ap, ap₂, ◌∙◌, subst, false, List, [], ◌∷◌, ◌++◌, ℕ, zero, suc, ◌+◌, ◌*◌, ◌≤◌, ◌<◌, arith, length, get_or, ltb}
use Rattle.lists.proofs.Kit.{eqb, ltb-true, ltb-false}
use Rattle.lists.specs.Pick.{pick}
use Rattle.lists.specs.Tests.{each}
use Rattle.lists.specs.Tab.{tab}
use Rattle.lists.proofs.Laws.Pick.{by, picks, skips}
use Rattle.area.specs.Area.{part, put}
use Rattle.area.proofs.Laws.Puts.{length-put, part-put}
use Rattle.area.proofs.Laws.Slots.{other-slot}
use Rattle.area.proofs.Laws.Parts.{few-part}
use Rattle.tree.specs.Tree.{join}
use Rattle.sia.specs.Encode.{joined}
use Rattle.host.specs.Empty.{none}
use Rattle.machine_rules.specs.Roots.{contract_root}
use Rattle.machine_rules.specs.Commit.{copied_back}
use Rattle.machine_rules.specs.declared.Spot.{Spot}

-- ---- slots

module _ (z : ℕ) (stage staged slots : List ℕ) where
  -- position i alone
  unfoldable back : ℕ → List ℕ → List ℕ
  back i disk = pick (eqb (get_or staged i none) none) disk (put disk (get_or slots i 0 * z) (part stage (get_or staged i none * z) z))

  back-length : (i : ℕ) (disk : List ℕ) → length (back i disk) ≡ length disk
  unfolding back
  back-length i disk =
      by (eqb (get_or staged i none) none)
      (λ e. ap length (picks (eqb (get_or staged i none) none) disk _ e))
      (λ e. ap length (skips (eqb (get_or staged i none) none) disk _ e) ∙ length-put disk _ _)

  back-other : (m i : ℕ) (disk : List ℕ) → (eqb (get_or staged i none) none ≡ false → get_or slots i 0 ≡ m → ⊥) → part (back i disk) (m * z) z ≡ part disk (m * z) z
  unfolding back
  back-other m i disk ne =
      by (eqb (get_or staged i none) none)
      (λ e. ap (λ (d : List ℕ). part d (m * z) z) (picks (eqb (get_or staged i none) none) disk _ e))
      (λ e. ap (λ (d : List ℕ). part d (m * z) z) (skips (eqb (get_or staged i none) none) disk _ e)
      ∙ other-slot z disk (get_or slots i 0) m _ (few-part stage _ z) (ne e))

  -- what position j's slot holds in the end
  unfoldable pub held : ℕ → List ℕ → List ℕ
  held j disk = pick (eqb (get_or staged j none) none) (part disk (get_or slots j 0 * z) z) (part stage (get_or staged j none * z) z)

  held-alike : (j : ℕ) (a b : List ℕ) → part a (get_or slots j 0 * z) z ≡ part b (get_or slots j 0 * z) z → held j a ≡ held j b
  unfolding held
  held-alike j a b e = ap (λ (l : List ℕ). pick (eqb (get_or staged j none) none) l (part stage (get_or staged j none * z) z)) e

  back-own : (i : ℕ) (disk : List ℕ) → get_or slots i 0 * z + z ≤ length disk
      → (eqb (get_or staged i none) none ≡ false → length (part stage (get_or staged i none * z) z) ≡ z)
      → part (back i disk) (get_or slots i 0 * z) z ≡ held i disk
  unfolding back held
  back-own i disk room full =
      by (eqb (get_or staged i none) none)
      (λ e. ap (λ (d : List ℕ). part d (get_or slots i 0 * z) z) (picks (eqb (get_or staged i none) none) disk _ e)
      ∙ sym (picks (eqb (get_or staged i none) none) _ _ e))
      (λ e. ap (λ (d : List ℕ). part d (get_or slots i 0 * z) z) (skips (eqb (get_or staged i none) none) disk _ e)
      ∙ part-put disk (get_or slots i 0 * z) (part stage (get_or staged i none * z) z) z (sym (full e)) (omega (arith, full e))
      ∙ sym (skips (eqb (get_or staged i none) none) _ _ e))

  -- ---- all of them

  pub filling-length : (i n : ℕ) (disk : List ℕ) → length (copied_back z stage staged slots i n disk) ≡ length disk
  unfolding copied_back back
  filling-length i zero disk = refl
  filling-length i (suc n) disk = filling-length (suc i) n (back i disk) ∙ back-length i disk

  pub filling-outside : (m i n : ℕ) (disk : List ℕ) → ((j : ℕ) → i ≤ j → j < i + n → eqb (get_or staged j none) none ≡ false → get_or slots j 0 ≡ m → ⊥)
      → part (copied_back z stage staged slots i n disk) (m * z) z ≡ part disk (m * z) z
  unfolding copied_back back
  filling-outside m i zero disk out = refl
  filling-outside m i (suc n) disk out =
      filling-outside m (suc i) n (back i disk) (λ j lo hi. out j (omega arith) (omega arith)) ∙ back-other m i disk (out i (omega arith) (omega arith))

  pub filling-inside : (i n : ℕ) (disk : List ℕ) → ((j k : ℕ) → i ≤ j → j < k → k < i + n → get_or slots j 0 ≡ get_or slots k 0 → ⊥) → (j : ℕ) → i ≤ j → j < i + n
      → get_or slots j 0 * z + z ≤ length disk → (eqb (get_or staged j none) none ≡ false → length (part stage (get_or staged j none * z) z) ≡ z)
      → part (copied_back z stage staged slots i n disk) (get_or slots j 0 * z) z ≡ held j disk
  unfolding copied_back back
  filling-inside i zero disk own j lo hi room full = absurd (omega arith)
  filling-inside i (suc n) disk own j lo hi room full =
      by (ltb i j)
      (λ e. let lt = ltb-true i j e in
      filling-inside (suc i) n (back i disk) (λ j k lo lt hi. own j k (omega arith) lt (omega arith)) j (omega arith) (omega arith)
      (omega (arith, back-length i disk)) full
      ∙ held-alike j (back i disk) disk (back-other (get_or slots j 0) i disk (λ u. own i j (omega arith) lt (omega arith))))
      (λ e. let q : i ≡ j = omega (arith, ltb-false i j e) in
      filling-outside (get_or slots j 0) (suc i) n (back i disk) (λ k low high u v. own j k (omega arith) (omega arith) (omega arith) (sym v))
      ∙ subst (λ (m : ℕ). part (back m disk) (get_or slots j 0 * z) z ≡ held j disk) (sym q) (back-own j disk room full))

-- ---- sectors that are alike, one by one

pub joined-each : {A B : Type 0} (f : B → List ℕ) (h : A → B) (l : List A) → joined f (each h l) ≡ joined (λ x. f (h x)) l
unfolding joined each
joined-each f h [] = refl
joined-each f h (x ∷ xs) = ap (λ (r : List ℕ). f (h x) ++ r) (joined-each f h xs)

pub joined-tab : {A B : Type 0} (f : A → List ℕ) (g : B → List ℕ) (d : A) (l : List A) (i n : ℕ) (k : ℕ → B) → length l ≡ n
    → ((j m : ℕ) → j < n → m ≡ i + j → f (get_or l j d) ≡ g (k m)) → joined f l ≡ joined g (tab i n k)
unfolding joined tab
joined-tab f g d [] i zero k e h = refl
joined-tab f g d [] i (suc n) k e h = absurd (omega arith)
joined-tab f g d (x ∷ xs) i zero k e h = absurd (omega arith)
joined-tab f g d (x ∷ xs) i (suc n) k e h =
    ap₂ ◌++◌ (h 0 i (omega arith) (omega arith)) (joined-tab f g d xs (suc i) n k (omega arith) (λ j m lt q. h (suc j) m (omega arith) (omega arith)))

pub roots-alike : (f g : Spot → List ℕ) (l m : List Spot) → length l ≡ length m → joined f l ≡ joined g m → contract_root f l ≡ contract_root g m
unfolding contract_root
roots-alike f g [] [] n e = refl
roots-alike f g [] (y ∷ ys) n e = absurd (omega arith)
roots-alike f g (x ∷ xs) [] n e = absurd (omega arith)
roots-alike f g (x ∷ xs) (y ∷ ys) n e = ap join e

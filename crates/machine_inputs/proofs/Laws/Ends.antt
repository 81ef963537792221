-- One turn of the loop that looks for the largest end of operands. Assumes nothing.
use Rattle.lists.proofs.Kit.{◌≡◌, sym, ap, ◌∙◌, false, List, ◌∷◌, ℕ, ◌+◌, ◌≤◌, ◌<◌, max, min, arith, length, take, get_or, slice, take_all, leb, leb-true}
use Rattle.lists.proofs.Kit.{leb-false, ltb-false}
use Rattle.lists.specs.Tests.{some}
use Rattle.lists.proofs.Laws.Pick.{by, either_left, either-right}
use Rattle.lists.proofs.Laws.Slices.{slice-none, slice-one}
use Rattle.sia.specs.Empty.{no_operand}
use Rattle.machine_rules.specs.Inputs.{largest}
use Rattle.machine_inputs.specs.Ends.{ends_past, end_of}
use Rattle.sia.specs.declared.Operand.{Operand}

pub largest-first : (l : List Operand) (n : ℕ) → max 0 (largest (slice 0 n l)) ≡ largest (take n l)
largest-first l n = omega arith

module _ (l : List Operand) (f n : ℕ) (long : length l ≡ 4) where
  first : f < n → n ≤ 4 → slice f n l ≡ get_or l f no_operand ∷ slice (f + 1) n l
  first h g = slice-one l f n no_operand long h g

  pub largest-further : (most whole : ℕ) → f < n → n ≤ 4 → max most (largest (slice f n l)) ≡ whole
      → max (max most (end_of (get_or l f no_operand))) (largest (slice (f + 1) n l)) ≡ whole
  unfolding largest
  largest-further most whole h g e =
      let one : largest (slice f n l) ≡ max (end_of (get_or l f no_operand)) (largest (slice (f + 1) n l)) = ap largest (first h g) in
      omega arith

  pub largest-done : (most whole : ℕ) → n ≤ f → max most (largest (slice f n l)) ≡ whole → most ≡ whole
  unfolding largest
  largest-done most whole h e =
      let none : largest (slice f n l) ≡ 0 = ap largest (slice-none l f n h) in
      omega arith

  module _ (declared : ℕ) (h : f < n) (g : n ≤ 4) (e : some (ends_past declared) (slice f n l) ≡ false) where
    pub past-further : some (ends_past declared) (slice (f + 1) n l) ≡ false
    unfolding some
    past-further = either-right _ _ (sym (ap (some (ends_past declared)) (first h g)) ∙ e)

    pub past-not : (get_or l f no_operand).offset + (get_or l f no_operand).len ≤ declared
    unfolding some
    past-not = ltb-false _ _ (either_left _ _ (sym (ap (some (ends_past declared)) (first h g)) ∙ e))

-- a count above 4 counts all four
pub listed-all : (count : ℕ) (l : List Operand) → length l ≡ 4 → (n : ℕ) → n ≡ min count 4 → take n l ≡ take count l
listed-all count l long n e = by (leb count 4)
    (λ u. ap (λ (k : ℕ). take k l) (let same : n ≡ count = omega (arith, leb-true count 4 u) in same))
    (λ u. take_all n l (omega (arith, leb-false count 4 u)) ∙ sym (take_all count l (omega (arith, leb-false count 4 u))))

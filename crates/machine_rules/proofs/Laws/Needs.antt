-- Inputs lie below the need of their instruction. Assumes nothing.
use Rattle.lists.proofs.Kit.{◌≡◌, refl, sym, ap, ap₂, ◌∙◌, false, List, [], ◌∷◌, ℕ, ◌+◌, ◌-◌, ◌≤◌, arith}
use Rattle.lists.proofs.Kit.{take, drop, take-take, eqb, eqb-true}
use Rattle.lists.specs.Pick.{pick}
use Rattle.lists.specs.Tests.{each}
use Rattle.lists.proofs.Laws.Pick.{by, skips}
use Rattle.lists.proofs.Laws.Entries.{drop-take}
use Rattle.area.specs.Area.{part}
use Rattle.machine_rules.specs.Inputs.{largest}
use Rattle.sia.specs.declared.Operand.{Operand}

-- ---- inputs lie below the need

part_cut : (l : List ℕ) (at n k : ℕ) → at + n ≤ k → part (take k l) at n ≡ part l at n
unfolding part
part_cut l at n k h =
    let q : k ≡ at + (k - at) = omega arith in
    let le : n ≤ k - at = omega arith in
    ap (λ (x : ℕ). take n (drop at (take x l))) q ∙ ap (λ (x : List ℕ). take n x) (drop-take at (k - at) l) ∙ take-take n (k - at) (drop at l) le

part-below : (a b : List ℕ) (at n k : ℕ) → at + n ≤ k → take k a ≡ take k b → part a at n ≡ part b at n
part-below a b at n k h e = sym (part_cut a at n k h) ∙ ap (λ (x : List ℕ). part x at n) e ∙ part_cut b at n k h

part-empty : (a b : List ℕ) (at n : ℕ) → n ≡ 0 → part a at n ≡ part b at n
unfolding part
part-empty a b at n e = rw e

largest-first : (o : Operand) (os : List Operand) (k : ℕ) → largest (o ∷ os) ≤ k → eqb o.len 0 ≡ false → o.offset + o.len ≤ k
unfolding largest
largest-first o os k h z =
    let e : pick (eqb o.len 0) 0 (o.offset + o.len) ≡ o.offset + o.len = skips (eqb o.len 0) 0 (o.offset + o.len) z in
    omega arith

largest-rest : (o : Operand) (os : List Operand) (k : ℕ) → largest (o ∷ os) ≤ k → largest os ≤ k
unfolding largest
largest-rest o os k h = omega arith

pub inputs-below : (os : List Operand) (a b : List ℕ) (k : ℕ) → largest os ≤ k → take k a ≡ take k b
    → each (λ o. part a o.offset o.len) os ≡ each (λ o. part b o.offset o.len) os
unfolding each
inputs-below [] a b k h e = refl
inputs-below (o ∷ os) a b k h e =
    ap₂ ◌∷◌
    (by (eqb o.len 0) (λ z. part-empty a b o.offset o.len (eqb-true o.len 0 z))
    (λ z. part-below a b o.offset o.len k (largest-first o os k h z) e))
    (inputs-below os a b k (largest-rest o os k h) e)

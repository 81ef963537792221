-- The refusal of a call on the open program: what holds where there is none, and which numbers there are. Assumes nothing.
use Rattle.lists.proofs.Kit.{◌≡◌, refl, ap, ◌∙◌, Bool, true, false, not, List, ℕ, suc, ◌≤◌, ◌<◌, arith, eqb, eqb-true, eqb-false, eq-eqb, not-true, not-false}
use Rattle.lists.specs.Pick.{pick}
use Rattle.lists.proofs.Laws.Pick.{picks, skips, both_left, both_right, both-join, or_right, second-not}
use Rattle.host.specs.Order.{in_order}
use Rattle.machine_rules.specs.View.{areas_right}
use Rattle.machine_rules.specs.Calls.{input_right, output_right, piece_lent, interrupt_lent, refusal}
use Rattle.host.specs.declared.Host.{Host}

-- ---- 1, 2 and 4

-- a host in order, lent what it states, with an open program
pub record Past (h : Host) (lent : Bool) : Type 0 where
  pub order : in_order h ≡ true
  pub areas : lent ≡ true
  pub live : h.program.active ≡ true

clear : (t : Bool) (n rest : ℕ) → pick t (suc n) rest ≡ 0 → (t ≡ false) × (rest ≡ 0)
unfolding pick
clear true n rest e = absurd (omega arith)
clear false n rest e = (refl, e)

module _ (h : Host) (lent : Bool) where
  pub past-zero : refusal h lent ≡ 0 → Past h lent
  unfolding refusal
  past-zero e =
      let one = clear (not (in_order h)) 0 _ e in
      let two = clear (not lent) 1 _ one.1 in
      record { order = not-false _ one.0; areas = not-false _ two.0; live = not-false _ (clear _ 3 0 two.1).0 }

  pub zero-past : Past h lent → refusal h lent ≡ 0
  unfolding refusal
  zero-past p = skips _ _ _ (ap not p.order) ∙ skips _ _ _ (ap not p.areas) ∙ skips _ _ _ (ap not p.live)

  -- as the calls test it
  pub past : not (eqb (refusal h lent) 0) ≡ false → Past h lent
  past e = past-zero (eqb-true _ _ (not-false _ e))

  pub goes : Past h lent → not (eqb (refusal h lent) 0) ≡ false
  goes p = ap not (eq-eqb _ _ (zero-past p))

  -- a refusal has a number from 1 to 4
  pub numbered : not (eqb (refusal h lent) 0) ≡ true → 0 < refusal h lent
  numbered e = let other : refusal h lent ≡ 0 → ⊥ = eqb-false _ _ (not-true _ e) in omega (arith, other)

  pub low : refusal h lent ≤ 4
  unfolding refusal pick
  low = under (in_order h) lent h.program.active
    where
      under : (a b c : Bool) → pick (not a) 1 (pick (not b) 2 (pick (not c) 4 0)) ≤ 4
      under false b c = omega arith
      under true false c = omega arith
      under true true false = omega arith
      under true true true = omega arith

  -- a host that is not in order is refused with 1
  pub broken : in_order h ≡ false → refusal h lent ≡ 1
  unfolding refusal
  broken e = picks _ _ _ (ap not e)

  pub broken-stops : in_order h ≡ false → not (eqb (refusal h lent) 0) ≡ true
  broken-stops e = ap (λ (n : ℕ). not (eqb n 0)) (broken e)

-- ---- what pieces and interrupts lend

module _ (h : Host) (disk stage input output : List ℕ) where
  pub piece-areas : piece_lent h disk stage input output ≡ true → areas_right h disk stage ≡ true
  unfolding piece_lent
  piece-areas e = both_left _ _ e

  pub piece-own : piece_lent h disk stage input output ≡ true → h.program.active ≡ true → (input_right h input ≡ true) × (output_right h output ≡ true)
  unfolding piece_lent
  piece-own e live = let own = second-not h.program.active _ (both_right _ _ e) live in (both_left _ _ own, both_right _ _ own)

  pub piece-lent : areas_right h disk stage ≡ true → input_right h input ≡ true → output_right h output ≡ true → piece_lent h disk stage input output ≡ true
  unfolding piece_lent
  piece-lent areas inputs outputs = both-join _ _ areas (or_right _ _ (both-join _ _ inputs outputs))

pub interrupt-own : (h : Host) (disk output : List ℕ) → interrupt_lent h disk output ≡ true → h.program.active ≡ true → output_right h output ≡ true
unfolding interrupt_lent
interrupt-own h disk output e live = second-not h.program.active _ (both_right _ _ e) live

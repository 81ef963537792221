-- Contracts formed in turn, one at a time: f i, f (i + 1), … are left of n. Assumes nothing.
use Rattle.lists.proofs.Kit.{◌≡◌, sym, ap, ◌∙◌, not, List, ℕ, suc, ◌+◌, ◌-◌, ◌≤◌, ◌<◌, arith, eq-eqb, ne_eqb}
use native.Mathlib.Numerals.{add-one}
use Rattle.lists.specs.Tab.{tab}
use Rattle.lists.proofs.Laws.Pick.{yes, no}
use Rattle.host.specs.Calls.{answered, formed}
use Rattle.bench_program.specs.Single.{formed_in_turn}
use Rattle.host.specs.declared.Host.{Host}
use Rattle.host.specs.Calls.{Made}

module _ (f : ℕ → List ℕ) (h : Host) (i n : ℕ) where
  -- the first refusal ends them
  pub turn-refused : {r : Made} → i < n → r ≡ formed h (f i) → (r.number ≡ 0 → ⊥) → r ≡ formed_in_turn h (tab i (n - i) f)
  unfolding formed_in_turn tab
  turn-refused l e w =
      let k : n - i ≡ suc (n - (i + 1)) = omega arith in
      rw k (yes _ _ _ (ap not (ne_eqb _ 0 (λ q. w (ap (λ (a : Made). a.number) e ∙ q)))) e)

  -- a contract that is formed leaves the others
  pub turn-formed : {r : Made} → i < n → r ≡ formed h (f i) → r.number ≡ 0
      → formed_in_turn h (tab i (n - i) f) ≡ formed_in_turn r.host (tab (i + 1) (n - (i + 1)) f)
  unfolding formed_in_turn tab
  turn-formed {r} l e w =
      let k : n - i ≡ suc (n - (i + 1)) = omega arith in
      rw (k, add-one i) (sym (no _ _ _ (ap not (eq-eqb _ 0 (sym (ap (λ (a : Made). a.number) e) ∙ w)))
      (ap (λ (a : Made). formed_in_turn a.host (tab (suc i) (n - suc i) f)) e)))

  pub turn-none : n ≤ i → answered 0 h ≡ formed_in_turn h (tab i (n - i) f)
  unfolding formed_in_turn tab
  turn-none l = let k : n - i ≡ 0 = omega arith in rw k

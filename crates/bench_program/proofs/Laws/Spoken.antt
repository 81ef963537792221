-- What stands at the front of the output area when it is written out. Assumes nothing.
use Rattle.lists.proofs.Kit.{◌≡◌, refl, sym, ap, ◌∙◌, List, ℕ, ◌≤◌, min, arith, length, take, eq-eqb, ne_eqb}
use Rattle.lists.proofs.Laws.Pick.{yes, no}
use Rattle.lists.proofs.Laws.Slices.{take_min}
use Rattle.area.specs.Area.{part, put}
use Rattle.area.specs.Little.{le8}
use Rattle.area.proofs.Laws.Puts.{part-put}
use Rattle.area.proofs.Laws.Little.{length-bytes}
use Rattle.host.specs.Refusals.{number_in}
use Rattle.bench_program.specs.Single.{Ran, leaves, spoken}
use Rattle.bench_program.specs.declared.Outcome.{Outcome}

module _ {n : ℕ} (o : Outcome) {disk stage input output : List ℕ} (r : Ran) (e : leaves o disk stage input output ≡ r)
    (is : number_in o.refused ≡ n) where
  -- a refusal's number
  pub speaks-number : {after : List ℕ} → (n ≡ 0 → ⊥) → 8 ≤ length output → after ≡ put output 0 (le8 n) → take 8 after ≡ spoken r
  unfolding spoken part
  speaks-number w long q =
      no _ _ _ (ne_eqb _ 0 (λ z. w (sym is ∙ ap (λ (x : Ran). x.number) e ∙ z)))
      (ap (take 8) q ∙ part-put output 0 (le8 n) 8 (sym (length-bytes 8 n)) (omega (arith, length-bytes 8 n))
      ∙ ap le8 (sym is) ∙ ap (λ (x : Ran). le8 x.number) e)

  -- the records
  pub speaks-records : {k : ℕ} → n ≡ 0 → k ≡ min o.written (length output) → take k output ≡ spoken r
  unfolding spoken
  speaks-records w q =
      yes _ _ _ (eq-eqb _ 0 (sym (ap (λ (x : Ran). x.number) e) ∙ is ∙ w))
      (ap (λ (k : ℕ). take k output) q ∙ take_min o.written (length output) output refl ∙ ap (λ (x : Ran). take x.written x.output) e)

-- An input from which bytes ahead of the data are missing is refused with 9, and so is none at all. Assumes nothing.
use Rattle.lists.proofs.Kit.{◌≡◌, refl, sym, ◌∙◌, true, false, List, [], ℕ, ◌≤◌, length, ltb, ltb-false}
use Rattle.lists.proofs.Laws.Pick.{by, picks, skips, either_left, either-right, or_right}
use Rattle.bench_program.specs.Input.{cut_short, wrong}
use Rattle.bench_input.specs.Kept.{missing}

module _ (all : List ℕ) where
  pub missing-wrong : missing all ≡ true → wrong all ≡ true
  unfolding missing wrong
  missing-wrong e =
      by (ltb (length all) 80)
      (λ u. picks _ _ _ u)
      (λ u. or_right _ _ (or_right _ _ (or_right _ _ (sym (skips _ true (cut_short all) u) ∙ e))))

  pub whole-front : missing all ≡ false → 80 ≤ length all
  unfolding missing
  whole-front e = ltb-false _ _ (either_left _ _ e)

  pub whole-ahead : missing all ≡ false → cut_short all ≡ false
  unfolding missing
  whole-ahead e = either-right _ _ e

pub none-wrong : wrong [] ≡ true
unfolding wrong
none-wrong = picks _ _ _ refl

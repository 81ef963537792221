-- The sizes of the other contracts, place by place, against what is left of a limit. Assumes nothing.
use Rattle.lists.proofs.Kit.{◌≡◌, sym, ap, ◌∙◌, true, false, List, ℕ, ◌+◌, ◌-◌, ◌≤◌, ◌<◌, arith, length, get_or, slice, leb, le-leb}
use Rattle.lists.specs.Tests.{each, sum}
use Rattle.lists.proofs.Laws.Slices.{slice-none, slice-one}
use Rattle.lists.proofs.Laws.Sums.{above, left_over}
use Rattle.host.specs.Places.{own_size, others}
use Rattle.host.specs.declared.Place.{Place}

module _ (id : List ℕ) (l : List Place) (f n : ℕ) (long : length l ≡ n) where
  others-one : (d : Place) → f < n → others id (slice f n l) ≡ others id (slice (f + 1) n l) + own_size id (get_or l f d)
  unfolding others sum each
  others-one d h = rw (slice-one l f n d long h (omega arith)) (omega arith)

  -- ---- one turn of the loop: what is left of the limit is for the places from f on, of which the first takes o

  pub fits-none : (d : Place) (left o : ℕ) → o ≡ own_size id (get_or l f d) → f < n → left < o → false ≡ leb (others id (slice f n l)) left
  fits-none d left o e h g = above left _ _ (omega arith) ∙ ap (λ (x : ℕ). leb x left) (sym (others-one d h))

  pub fits-further : (d : Place) (left o : ℕ) → o ≡ own_size id (get_or l f d) → f < n → o ≤ left
      → leb (others id (slice f n l)) left ≡ leb (others id (slice (f + 1) n l)) (left - o)
  fits-further d left o e h g =
      ap (λ (x : ℕ). leb x left) (others-one d h) ∙ ap (λ (x : ℕ). leb (others id (slice (f + 1) n l) + x) left) (sym e)
      ∙ sym (left_over left o (others id (slice (f + 1) n l)) g)

  pub fits-done : (left : ℕ) → n ≤ f → true ≡ leb (others id (slice f n l)) left
  unfolding others sum each
  fits-done left h = rw (slice-none l f n h) (sym (le-leb 0 left (omega arith)))

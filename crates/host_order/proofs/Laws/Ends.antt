-- What lies behind an end that is at most the length of an array, and between two. Assumes nothing.
use Rattle.lists.proofs.Kit.{◌≡◌, sym, ap, ◌∙◌, List, ℕ, ◌+◌, ◌-◌, min, arith, length, take, length-take, take_all, drop, length-drop, drop_of_length-le}
use Rattle.lists.proofs.Kit.{leb, leb-true, leb-false}
use Rattle.lists.proofs.Laws.Entries.{drop-take}
use Rattle.lists.proofs.Laws.Pick.{by}
use Rattle.lists.proofs.Laws.Slices.{take_min}

drop-min : (a n : ℕ) (l : List ℕ) → length l ≡ n → drop (min a n) l ≡ drop a l
drop-min a n l h = by (leb a n)
    (λ u. let m : min a n ≡ a = omega (arith, leb-true a n u) in rw m)
    (λ u. let m : min a n ≡ n = omega (arith, leb-false a n u) in
    rw m (drop_of_length-le l {i = n} (omega arith) ∙ sym (drop_of_length-le l {i = a} (omega (arith, leb-false a n u)))))

from-to : (e s : ℕ) (l : List ℕ) → take (e - min e s) (drop (min e s) l) ≡ drop s (take e l)
from-to e s l = by (leb s e)
    (λ u.
    let m : min e s ≡ s = omega (arith, leb-true s e u) in
    let sum : e ≡ s + (e - s) = omega (arith, leb-true s e u) in
    rw m (sym (drop-take s (e - s) l) ∙ ap (λ (k : ℕ). drop s (take k l)) (sym sum)))
    (λ u.
    let m : min e s ≡ e = omega (arith, leb-false s e u) in
    let none : e - e ≡ 0 = omega arith in
    rw (m, none) (sym (drop_of_length-le (take e l) {i = s} (omega (arith, leb-false s e u, length-take e l)))))

module _ (l : List ℕ) (n size end : ℕ) (long : length l ≡ n) (is : end ≡ min size n) where
  -- behind the end
  pub behind : take (n - end) (drop end l) ≡ drop size l
  behind = take_all (n - end) (drop end l) (omega (arith, length-drop end l)) ∙ rw is (drop-min size n l long)

  -- from s to the end, which may lie before s
  pub between : (s from : ℕ) → from ≡ min end s → take (end - from) (drop from l) ≡ drop s (take size l)
  between s from e = rw e (from-to end s l ∙ ap (drop s) (rw is (take_min size n l long)))

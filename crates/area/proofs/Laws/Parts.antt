-- Parts of areas. Assumes nothing.
use Rattle.lists.proofs.Kit.{◌≡◌, refl, ap, ◌∙◌, List, [], ◌∷◌, ◌++◌, ℕ, ◌+◌, ◌-◌, ◌≤◌, ◌<◌, add-sub_cancel_left, arith, length, take, drop, get_or}
use Rattle.lists.proofs.Kit.{length-take, length-drop, take-add, take_all, take-take, drop-drop, length-take-le, get_or-take, get_or-drop, drop-cons}
use Rattle.lists.proofs.Laws.Entries.{drop-take}
use Rattle.area.specs.Area.{part}

pub length_part : (a : List ℕ) (at n : ℕ) → at + n ≤ length a → length (part a at n) ≡ n
unfolding part
length_part a at n h = length-take-le n (drop at a) (omega (arith, length-drop at a))

pub few-part : (a : List ℕ) (at n : ℕ) → length (part a at n) ≤ n
unfolding part
few-part a at n = omega (arith, length-take n (drop at a))

-- a slice's part `&a[at..e]`, as the prover shows it
pub part-is : (a : List ℕ) (at n e : ℕ) → e ≡ at + n → take (e - at) (drop at a) ≡ part a at n
unfolding part
part-is a at n e h = rw (h, add-sub_cancel_left)

pub part_none : (a : List ℕ) (at : ℕ) → part a at 0 ≡ []
unfolding part
part_none a at = refl

pub part-one : (a : List ℕ) (at : ℕ) → at < length a → part a at 1 ≡ get_or a at 0 ∷ []
unfolding part
part-one a at h = ap (take 1) (drop-cons a at 0 h)

pub part-whole : (a : List ℕ) (n : ℕ) → n ≡ length a → part a 0 n ≡ a
unfolding part
part-whole a n e = take_all n a (omega arith)

-- one part behind another
pub part-add : (a : List ℕ) (at n m : ℕ) → part a at (n + m) ≡ part a at n ++ part a (at + n) m
unfolding part
part-add a at n m = take-add n m (drop at a) ∙ ap (λ (l : List ℕ). take n (drop at a) ++ take m l) (drop-drop n at a)

-- a part of a part
pub part-part : (a : List ℕ) (at n from m : ℕ) → from + m ≤ n → part (part a at n) from m ≡ part a (at + from) m
unfolding part
part-part a at n from m h =
    let e : n ≡ from + (n - from) = omega arith in
    ap (λ (k : ℕ). take m (drop from (take k (drop at a)))) e
    ∙ ap (take m) (drop-take from (n - from) (drop at a))
    ∙ take-take m (n - from) (drop from (drop at a)) (omega arith)
    ∙ ap (take m) (drop-drop from at a)

pub get_d_part : (a : List ℕ) (at n i : ℕ) → i < n → get_or (part a at n) i 0 ≡ get_or a (at + i) 0
unfolding part
get_d_part a at n i h = get_or-take n (drop at a) i 0 h ∙ get_or-drop at a i 0

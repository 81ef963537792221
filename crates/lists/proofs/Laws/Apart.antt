-- Lists of which no two entries are so related, and numbers that are not among others. Assumes nothing.
use mathlib.Core.Path.{◌≡◌, refl, sym, ap}
use mathlib.Core.Bool.{Bool, true, false, not}
use mathlib.Core.List.{List, [], ◌∷◌, ◌++◌}
use Prim.Native.Nat.{ℕ, zero, suc, ◌<◌}
use native.Mathlib.Omega.{arith}
use lib.ListN.{length, get_or}
use lib.Dec.{eqb}
use borrow.Author.Tests.{not-true}
use Rattle.lists.specs.Tests.{every, some, apart, unused}
use Rattle.lists.proofs.Laws.Pick.{both_left, both_right, both-join, either_left, either-right, either-join, neither}
use Rattle.lists.proofs.Laws.Some.{eqb_swap, some-and, some-fore, some-aft, some_at}

pub tail_apart : {A : Type 0} (e : A → A → Bool) (x : A) (xs : List A) → apart e (x ∷ xs) ≡ true → (some (e x) xs ≡ false) × (apart e xs ≡ true)
unfolding apart
tail_apart e x xs h = (not-true _ (both_left _ _ h), both_right _ _ h)

pub join_apart : {A : Type 0} (e : A → A → Bool) (x : A) (xs : List A) → some (e x) xs ≡ false → apart e xs ≡ true → apart e (x ∷ xs) ≡ true
unfolding apart
join_apart e x xs h k = both-join _ _ (ap not h) k

-- a part may be left out
pub apart_out : {A : Type 0} (e : A → A → Bool) (l r m : List A) → apart e (l ++ (r ++ m)) ≡ true → apart e (l ++ m) ≡ true
apart_out e [] [] m h = h
apart_out e [] (y ∷ r) m h = apart_out e [] r m (tail_apart e y (r ++ m) h).1
apart_out e (x ∷ l) r m h =
    let t = tail_apart e x (l ++ (r ++ m)) h in
    join_apart e x (l ++ m) (some-and (e x) l m (some-fore (e x) l (r ++ m) t.0) (some-aft (e x) r m (some-aft (e x) l (r ++ m) t.0)))
    (apart_out e l r m t.1)

-- ---- numbers, no two alike

pub distinct : (l : List ℕ) → apart eqb l ≡ true → (j k : ℕ) → j < k → k < length l → get_or l j 0 ≡ get_or l k 0 → ⊥
distinct [] h j k lt le e = absurd (omega arith)
distinct (x ∷ xs) h zero zero lt le e = absurd (omega arith)
distinct (x ∷ xs) h zero (suc k) lt le e = some_at x xs k (tail_apart eqb x xs h).0 (omega arith) (sym e)
distinct (x ∷ xs) h (suc j) zero lt le e = absurd (omega arith)
distinct (x ∷ xs) h (suc j) (suc k) lt le e = distinct xs (tail_apart eqb x xs h).1 j k (omega arith) (omega arith) e

unused-first : (y : ℕ) (m n : List ℕ) → every (unused m) (y ∷ n) ≡ true → some (eqb y) m ≡ false
unfolding every
unused-first y m n h = not-true _ (both_left _ _ h)

unused-rest : (y : ℕ) (m n : List ℕ) → every (unused m) (y ∷ n) ≡ true → every (unused m) n ≡ true
unfolding every
unused-rest y m n h = both_right _ _ h

-- x is none of those that are not in a list which has it
pub unused-head : (x : ℕ) (l n : List ℕ) → every (unused (x ∷ l)) n ≡ true → (some (eqb x) n ≡ false) × (every (unused l) n ≡ true)
unfolding every some
unused-head x l [] h = (refl, refl)
unused-head x l (y ∷ ys) h =
    let e = neither _ _ (not-true _ (both_left _ _ h)) in
    let r = unused-head x l ys (both_right _ _ h) in
    (either-join _ _ (eqb_swap y x e.0) r.0, both-join _ _ (ap not e.1) r.1)

-- new ones go in between
pub apart_in : (l n m : List ℕ) → apart eqb (l ++ m) ≡ true → apart eqb n ≡ true → every (unused (l ++ m)) n ≡ true → apart eqb (l ++ (n ++ m)) ≡ true
apart_in [] [] m h a u = h
apart_in [] (y ∷ n) m h a u =
    let t = tail_apart eqb y n a in
    join_apart eqb y (n ++ m) (some-and (eqb y) n m t.0 (unused-first y m n u)) (apart_in [] n m h t.1 (unused-rest y m n u))
apart_in (x ∷ l) n m h a u =
    let t = tail_apart eqb x (l ++ m) h in
    let r = unused-head x (l ++ m) n u in
    join_apart eqb x (l ++ (n ++ m)) (some-and (eqb x) l (n ++ m) (some-fore (eqb x) l m t.0)
    (some-and (eqb x) n m r.0 (some-aft (eqb x) l m t.0))) (apart_in l n m t.1 a r.1)

pub fore-unused : (l m r : List ℕ) → apart eqb (l ++ (m ++ r)) ≡ true → every (unused m) l ≡ true
unfolding every
fore-unused [] m r h = refl
fore-unused (x ∷ l) m r h =
    let t = tail_apart eqb x (l ++ (m ++ r)) h in
    both-join _ _ (ap not (some-fore (eqb x) m r (some-aft (eqb x) l (m ++ r) t.0))) (fore-unused l m r t.1)

-- none of them is y, nor among m
unused-more : (y : ℕ) (m r : List ℕ) → some (eqb y) r ≡ false → every (unused m) r ≡ true → every (unused (y ∷ m)) r ≡ true
unfolding every some
unused-more y m [] h k = refl
unused-more y m (n ∷ r) h k =
    both-join _ _ (ap not (either-join _ _ (eqb_swap y n (either_left _ _ h)) (not-true _ (both_left _ _ k))))
    (unused-more y m r (either-right _ _ h) (both_right _ _ k))

all-unused : (r : List ℕ) → every (unused []) r ≡ true
unfolding every some
all-unused [] = refl
all-unused (x ∷ r) = both-join _ _ refl (all-unused r)

pub aft-unused : (m r : List ℕ) → apart eqb (m ++ r) ≡ true → every (unused m) r ≡ true
aft-unused [] r h = all-unused r
aft-unused (y ∷ m) r h = let t = tail_apart eqb y (m ++ r) h in unused-more y m r (some-aft (eqb y) m r t.0) (aft-unused m r t.1)

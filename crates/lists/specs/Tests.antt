-- Lists by tests, and numbers by tests. Assumes nothing.
use Rattle.std.specs.Prelude.{Bool, true, false, not, List, [], ◌∷◌, ℕ, zero, suc, ◌+◌, eqb}
use Rattle.lists.specs.Pick.{pick, both, either}

-- every one passes the test
unfoldable pub every : {A : Type 0} → (A → Bool) → List A → Bool
every p [] = true
every p (x ∷ xs) = both (p x) (every p xs)

-- one of them passes the test
unfoldable pub some : {A : Type 0} → (A → Bool) → List A → Bool
some p [] = false
some p (x ∷ xs) = either (p x) (some p xs)

-- those that pass the test
unfoldable pub those : {A : Type 0} → (A → Bool) → List A → List A
those p [] = []
those p (x ∷ xs) = pick (p x) (x ∷ those p xs) (those p xs)

-- f of each
unfoldable pub each : {A B : Type 0} → (A → B) → List A → List B
each f [] = []
each f (x ∷ xs) = f x ∷ each f xs

-- the number of the first that passes the test; the number of all where none does
unfoldable pub first_of : {A : Type 0} → (A → Bool) → List A → ℕ
first_of p [] = 0
first_of p (x ∷ xs) = let rest = suc (first_of p xs) in pick (p x) 0 rest

-- no two of them are so related
unfoldable pub apart : {A : Type 0} → (A → A → Bool) → List A → Bool
apart e [] = true
apart e (x ∷ xs) = both (not (some (e x) xs)) (apart e xs)

unfoldable pub sum : List ℕ → ℕ
sum [] = 0
sum (x ∷ xs) = x + sum xs

-- how many of i, i + 1, … (n of them) pass the test
unfoldable pub count : (ℕ → Bool) → ℕ → ℕ → ℕ
count p i zero = 0
count p i (suc n) = pick (p i) 1 0 + count p (suc i) n

-- i is not among the numbers
abbrev pub unused : List ℕ → ℕ → Bool
unused l i = not (some (eqb i) l)

-- Areas as lists of bytes: a part of one, bytes laid over one, and when two are the same. Assumes nothing.
use Rattle.std.specs.Prelude.{Bool, true, false, List, [], ◌∷◌, ℕ, zero, suc, take, drop, replicate, eqb}
use Rattle.lists.specs.Pick.{both}

-- the n bytes of a from `at` on; fewer where a ends before
unfoldable pub part : List ℕ → ℕ → ℕ → List ℕ
part a at n = take n (drop at a)

-- a with bs laid over it from `at` on; what would pass the end is left out, so that the length stays whatever is laid
unfoldable pub put : List ℕ → ℕ → List ℕ → List ℕ
put [] at bs = []
put (x ∷ xs) (suc at) bs = x ∷ put xs at bs
put (x ∷ xs) zero [] = x ∷ xs
put (x ∷ xs) zero (b ∷ bs) = b ∷ put xs zero bs

-- two spans of n bytes exchanged: both are read first, the first is laid at `two`, then the second at `one`, over it where they overlap
unfoldable pub exchanged : List ℕ → ℕ → ℕ → ℕ → List ℕ
exchanged a one two n = put (put a two (part a one n)) one (part a two n)

-- two byte strings are the same: as long, and equal at every place
unfoldable pub same : List ℕ → List ℕ → Bool
same [] [] = true
same [] (y ∷ ys) = false
same (x ∷ xs) [] = false
same (x ∷ xs) (y ∷ ys) = both (eqb x y) (same xs ys)

abbrev pub zeros : ℕ → List ℕ
zeros n = replicate n 0

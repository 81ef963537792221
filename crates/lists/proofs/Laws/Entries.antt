-- Entries of lists and parts of them. Assumes nothing.
use mathlib.Core.Path.{◌≡◌, refl}
use mathlib.Core.List.{List, [], ◌∷◌}
use Prim.Native.Nat.{ℕ, zero, suc, ◌+◌, ◌<◌}
use native.Mathlib.Omega.{arith}
use lib.ListN.{length, take, drop, get_or}
use lib.Seq.{take-nil}

-- an entry that there is, whatever stands for one that is not
pub any-default : {A : Type 0} (l : List A) (i : ℕ) (d e : A) → i < length l → get_or l i d ≡ get_or l i e
any-default [] i d e h = absurd (omega arith)
any-default (x ∷ xs) zero d e h = refl
any-default (x ∷ xs) (suc i) d e h = any-default xs i d e (omega arith)

pub empty : {A : Type 0} (l : List A) → length l ≡ 0 → l ≡ []
empty [] e = refl
empty (x ∷ xs) e = absurd (omega arith)

pub drop-take : {A : Type 0} (k m : ℕ) (l : List A) → drop k (take (k + m) l) ≡ take m (drop k l)
drop-take zero m l = let e : 0 + m ≡ m = omega arith in rw e
drop-take (suc k) m [] = rw (take-nil (suc k + m), take-nil m)
drop-take (suc k) m (x ∷ xs) = let e : suc k + m ≡ suc (k + m) = omega arith in rw e (drop-take k m xs)

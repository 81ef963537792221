-- What a reading that came to a value says: each section before it was read. Assumes nothing.
use Rattle.lists.proofs.Kit.{◌≡◌, refl, ◌∙◌, subst, Bool, true, false, List, ◌++◌, ℕ, ◌≤◌, arith, ltb, ltb-false}
use Rattle.lists.specs.Pick.{pick}
use Rattle.sia.specs.Decode.{Reading, value, fault, after, number, limited}

-- the value and the bytes behind it of the first of two sections
pub record Split {A B : Type 0} (r : Reading A) (next : A → List ℕ → Reading B) (y : B) (end : List ℕ) : Type 0 where
  pub x : A
  pub rest : List ℕ
  pub first : r ≡ value x rest
  pub second : next x rest ≡ value y end

pub split : {A B : Type 0} (r : Reading A) (next : A → List ℕ → Reading B) {y : B} {end : List ℕ} → after r next ≡ value y end → Split r next y end
unfolding after
split (value x rest) next e = record { x = x; rest = rest; first = refl; second = e }
split (fault n) next e = absurd (let z : ◌≡◌ {A = ℕ} 0 1 = cc in omega arith)

-- a test that answers a fault did not hold
pub past : {A : Type 0} (t : Bool) (n : ℕ) (r : Reading A) {y : A} {end : List ℕ} → pick t (fault n) r ≡ value y end → (t ≡ false) × (r ≡ value y end)
unfolding pick
past true n r e = absurd (let z : ◌≡◌ {A = ℕ} 0 1 = cc in omega arith)
past false n r e = (refl, e)

pub same-value : {A : Type 0} {x y : A} {rest end : List ℕ} → value x rest ≡ value y end → (x ≡ y) × (rest ≡ end)
same-value e = (cc, cc)

-- what holds of the value that was made of the sections holds of the one that was read
pub as_read : {A : Type 0} (P : A → Type 0) (x : A) (end : List ℕ) {y : A} {rest : List ℕ} → value x end ≡ value y rest → P x → P y
as_read P x end e h = subst P (same-value e).0 h

-- and so do the bytes that it stands for, in front of the rest
pub in-front : {A : Type 0} (f : A → List ℕ) (x : A) (end : List ℕ) {bs : List ℕ} {y : A} {rest : List ℕ} → value x end ≡ value y rest → bs
    ≡ f x ++ end → bs ≡ f y ++ rest
in-front f x end e p = let q = same-value e in p ∙ (λ i. f (q.0 i) ++ q.1 i)

-- a count that was read is within its limit
pub limited-within : (limit : ℕ) (bs : List ℕ) {n : ℕ} {end : List ℕ} → limited limit bs ≡ value n end → n ≤ limit
unfolding limited
limited-within limit bs e =
    let s = split (number bs) _ e in
    let p = past (ltb limit s.x) 10 _ s.second in
    omega (arith, ltb-false limit s.x p.0, (same-value p.1).0)

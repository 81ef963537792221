-- A fault has a number other than 0, so that an answer 0 is a head that was read. Assumes nothing.
use Rattle.lists.proofs.Kit.{◌≡◌, ap, Bool, true, false, List, [], ◌∷◌, ℕ, zero, suc, arith}
use Rattle.lists.specs.Pick.{pick}
use Rattle.sia.specs.declared.Head.{Head}
use Rattle.sia.specs.Decode.{Told}
use Rattle.sia.specs.Decode.{Reading, value, fault, after, bytes, number, limited, flag, several, entries, operand, instruction, head}
use Rattle.sia.specs.Decode.{decode, answer, told}

unfoldable Honest : {A : Type 0} → Reading A → Type 0
Honest (value x rest) = Unit
Honest (fault n) = n ≡ 0 → ⊥

after-honest : {A B : Type 0} (next : A → List ℕ → Reading B) (r : Reading A) → Honest r → ((x : A) (rest : List ℕ) → Honest (next x rest))
    → Honest (after r next)
unfolding after Honest
after-honest next (value x rest) h k = k x rest
after-honest next (fault n) h k = h

tested : {A : Type 0} (t : Bool) (n : ℕ) (r : Reading A) → (n ≡ 0 → ⊥) → Honest r → Honest (pick t (fault n) r)
unfolding pick Honest
tested true n r h k = h
tested false n r h k = k

read : {A : Type 0} (x : A) (rest : List ℕ) → Honest (value x rest)
unfolding Honest
read x rest = tt

nine : ◌≡◌ {A = ℕ} 9 0 → ⊥
nine e = omega arith

ten : ◌≡◌ {A = ℕ} 10 0 → ⊥
ten e = omega arith

bytes-honest : (n : ℕ) (bs : List ℕ) → Honest (bytes n bs)
unfolding bytes
bytes-honest n bs = tested _ 9 _ nine (read _ _)

number-honest : (bs : List ℕ) → Honest (number bs)
unfolding number
number-honest bs = after-honest _ _ (bytes-honest 8 bs) (λ b rest. read _ _)

limited-honest : (limit : ℕ) (bs : List ℕ) → Honest (limited limit bs)
unfolding limited
limited-honest limit bs = after-honest _ _ (number-honest bs) (λ n rest. tested _ 10 _ ten (read _ _))

flag-honest : (bs : List ℕ) → Honest (flag bs)
unfolding flag
flag-honest bs = after-honest _ _ (bytes-honest 1 bs) (λ b rest. tested _ 9 _ nine (read _ _))

module _ {A : Type 0} (one : List ℕ → Reading A) (honest : (bs : List ℕ) → Honest (one bs)) where
  several-honest : (n : ℕ) (bs : List ℕ) → Honest (several one n bs)
  unfolding several
  several-honest zero bs = read _ _
  several-honest (suc n) bs = after-honest _ _ (honest bs) (λ x rest. after-honest _ _ (several-honest n rest) (λ xs end. read _ _))

  entries-honest : (room : ℕ) (none : A) (n : ℕ) (bs : List ℕ) → Honest (entries one room none n bs)
  unfolding entries
  entries-honest room none n bs = after-honest _ _ (several-honest n bs) (λ xs rest. read _ _)

operand-honest : (bs : List ℕ) → Honest (operand bs)
unfolding operand
operand-honest bs = after-honest _ _ (number-honest bs) (λ o rest. after-honest _ _ (number-honest rest) (λ n end. read _ _))

instruction-honest : (bs : List ℕ) → Honest (instruction bs)
unfolding instruction
instruction-honest bs =
    after-honest _ _ (bytes-honest 16 bs) (λ name r.
    after-honest _ _ (limited-honest 4 r) (λ n s.
    after-honest _ _ (entries-honest operand operand-honest _ _ n s) (λ os t.
    after-honest _ _ (flag-honest t) (λ p end. read _ _))))

head-honest : (bs : List ℕ) → Honest (head bs)
unfolding head
head-honest bs =
    after-honest _ _ (bytes-honest 32 bs) (λ id r.
    after-honest _ _ (limited-honest 32 r) (λ n s.
    after-honest _ _ (entries-honest instruction instruction-honest _ _ n s) (λ is t.
    after-honest _ _ (limited-honest 65536 t) (λ d end. read _ _))))

-- an answer 0 is a head that was read whole
pub read-of : (bs : List ℕ) (h : Head) → decode bs ≡ told 0 h → head bs ≡ value h []
unfolding decode answer Honest
read-of bs h e = go (head bs) (head-honest bs) e where
  go : (r : Reading Head) → Honest r → answer r ≡ told 0 h → r ≡ value h []
  go (value g []) k q = ap (λ (t : Told). value t.head []) q
  go (value g (b ∷ rest)) k q = absurd (nine (ap (λ (t : Told). t.number) q))
  go (fault n) k q = absurd (k (ap (λ (t : Told). t.number) q))

-- Reading one section after another, as the code does it: `goes` where a section was read, `stops` where it has a fault, and `fails` at the exit
-- of a `?`. Assumes nothing.
use Rattle.std.specs.Prelude.{Result}
use Rattle.std.specs.Result.{IsErr, IsErrAnd}
use Rattle.std.proofs.lemmas.Result.{err_from_is_err_and}
use Rattle.lists.proofs.Kit.{◌≡◌, refl, sym, ap, ◌∙◌, true, not, List, [], ◌∷◌, ℕ, get_or, arith, eqb, length, length-take-le, ltb, ltb-false}
use Rattle.area.specs.Little.{value_of}
use Rattle.sia.specs.Decode.{Reading, value, fault, after, bytes, Told, told, answer}
use Rattle.sia.specs.Empty.{no_head}
use Rattle.sia.specs.declared.Head.{Head}
use Rattle.sia.proofs.Laws.Inverse.{past, same-value}
use Rattle.sia_read.specs.declared.Fault.{Fault}
use Rattle.sia_read.specs.declared.Fault.TheVariants.{Malformed, AboveLimit}
use Rattle.sia_read.specs.Faults.{number_of, reading, listed, told_of}

module _ {A B : Type 0} (next : A → List ℕ → Reading B) {s : Reading A} where
  pub goes : {x : A} {rest : List ℕ} {t : Reading B} → value x rest ≡ s → t ≡ next x rest → t ≡ after s next
  unfolding after
  goes e q = q ∙ ap (λ (s : Reading A). after s next) e

  pub stops : {n : ℕ} → fault n ≡ s → fault n ≡ after s next
  unfolding after
  stops e = ap (λ (s : Reading A). after s next) e

pub fails : {A : Type 0} (r : Result A Fault) (rest : List ℕ) (e : Fault) {t : Reading A} → IsErr r × IsErrAnd r (λ y. y ≡ e)
    → fault (number_of e) ≡ t → reading r rest ≡ t
fails r rest e f q = let p = err_from_is_err_and r f.1 in rw (p.1, p.2) q

pub list-fails : {A : Type 0} (r : Result (Unit {0}) Fault) (xs : List A) (rest : List ℕ) (e : Fault) {t : Reading (List A)}
    → IsErr r × IsErrAnd r (λ y. y ≡ e) → fault (number_of e) ≡ t → listed r xs rest ≡ t
list-fails r xs rest e f q = let p = err_from_is_err_and r f.1 in rw (p.1, p.2) q

-- N bytes are N bytes
pub long : (n : ℕ) (bs : List ℕ) {x rest : List ℕ} → value x rest ≡ bytes n bs → length x ≡ n
unfolding bytes
long n bs e =
    let read = past (ltb (length bs) n) 9 _ (sym e) in
    ap length (sym (same-value read.1).0) ∙ length-take-le n bs (ltb-false (length bs) n read.0)

-- and one byte is a number
pub one-byte : (bs : List ℕ) {x rest : List ℕ} → value x rest ≡ bytes 1 bs → get_or x 0 0 ≡ value_of x
unfolding value_of
one-byte bs {x} e = go x (long 1 bs e) where
  go : (x : List ℕ) → length x ≡ 1 → get_or x 0 0 ≡ value_of x
  go (b ∷ []) l = omega arith
  go [] l = absurd (omega arith)
  go (b ∷ c ∷ x) l = absurd (omega arith)

-- ---- the answer at the end

pub refused : (r : Result Head Fault) (e : Fault) {t : Told} → IsErr r × IsErrAnd r (λ y. y ≡ e) → told (number_of e) no_head ≡ t → told_of r ≡ t
refused r e f q = let p = err_from_is_err_and r f.1 in rw (p.1, p.2) q

-- bytes left over
pub more : (h : Head) (rest : List ℕ) → (length rest ≡ 0 → ⊥) → told 9 no_head ≡ answer (value h rest)
unfolding answer
more h [] n = absurd (n refl)
more h (b ∷ rest) n = refl

pub whole : (h : Head) (rest : List ℕ) → length rest ≡ 0 → told 0 h ≡ answer (value h rest)
unfolding answer
whole h [] n = refl
whole h (b ∷ rest) n = absurd (omega (arith, n))

-- a fault's number is not 0
pub faulty : (e : Fault) → not (eqb (number_of e) 0) ≡ true
faulty Malformed = refl
faulty AboveLimit = refl

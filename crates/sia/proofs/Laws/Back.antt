-- Writing what was read: the bytes of what a section was read as, in front of the bytes behind it, are the bytes that were read.
-- Assumes nothing.
use Rattle.lists.proofs.Kit.{◌≡◌, refl, sym, ap, ◌∙◌, subst, List, [], ◌∷◌, ◌++◌, append_assoc, ℕ, zero, suc, ◌≤◌, arith, length, take}
use Rattle.lists.proofs.Kit.{take-append-drop, take_at, length-take-le, ltb, eqb, ltb-false}
use Rattle.area.specs.Little.{value_of, bytes_of, le8, Bytes}
use Rattle.area.proofs.Laws.Little.{bytes-value}
use Rattle.sia.specs.Empty.{no_operand, no_instruction, filled}
use Rattle.sia.specs.Encode.{joined, operand_bytes, flag_byte, instruction_bytes, encode}
use Rattle.sia.specs.Decode.{Reading, value, after, bytes, number, limited, flag, several, entries, operand, instruction, head}
use Rattle.sia.proofs.Laws.Joined.{four-in-front}
use Rattle.sia.proofs.Laws.Inverse.{split, past, same-value, in-front, limited-within}

-- ---- bytes in front and behind

pub front_bytes : (xs ys : List ℕ) → Bytes (xs ++ ys) → Bytes xs
unfolding Bytes
front_bytes [] ys h i = omega arith
front_bytes (x ∷ xs) ys h zero = h 0
front_bytes (x ∷ xs) ys h (suc i) = front_bytes xs ys (λ j. h (suc j)) i

behind-bytes : (xs ys : List ℕ) → Bytes (xs ++ ys) → Bytes ys
unfolding Bytes
behind-bytes [] ys h = h
behind-bytes (x ∷ xs) ys h = behind-bytes xs ys (λ j. h (suc j))

-- ---- one section

-- a section's bytes are those in front of the rest
abbrev pub Back : {A : Type 0} → (List ℕ → Reading A) → (A → List ℕ) → Type 0
Back {A} one f = (bs : List ℕ) → Bytes bs → (x : A) (rest : List ℕ) → one bs ≡ value x rest → bs ≡ f x ++ rest

-- and the rest are bytes
pub rest-bytes : (f rest : List ℕ) {bs : List ℕ} → Bytes bs → bs ≡ f ++ rest → Bytes rest
rest-bytes f rest h e = behind-bytes f rest (subst Bytes e h)

pub bytes_back : (n : ℕ) (bs : List ℕ) {b rest : List ℕ} → bytes n bs ≡ value b rest → (bs ≡ b ++ rest) × (length b ≡ n)
unfolding bytes
bytes_back n bs {b} {rest} e =
    let p = past (ltb (length bs) n) 9 _ e in
    let q = same-value p.1 in
    let h : n ≤ length bs = ltb-false (length bs) n p.0 in
    (sym (take-append-drop n bs) ∙ (λ i. q.0 i ++ q.1 i), ap length (sym q.0) ∙ length-take-le n bs h)

pub number-back : Back number le8
unfolding number
number-back bs h n rest e =
    let s = split (bytes 8 bs) _ e in
    let b = bytes_back 8 bs s.first in
    let q = same-value s.second in
    let own : Bytes s.x = front_bytes s.x s.rest (subst Bytes b.0 h) in
    let eight : le8 (value_of s.x) ≡ s.x = ap (λ (k : ℕ). bytes_of k (value_of s.x)) (sym b.1) ∙ bytes-value s.x own in
    b.0 ∙ (λ i. sym eight i ++ s.rest) ∙ (λ i. le8 (q.0 i) ++ q.1 i)

pub limited-back : (limit : ℕ) → Back (limited limit) le8
unfolding limited
limited-back limit bs h n rest e =
    let s = split (number bs) _ e in
    let q = same-value (past (ltb limit s.x) 10 _ s.second).1 in
    number-back bs h s.x s.rest s.first ∙ (λ i. le8 (q.0 i) ++ q.1 i)

flag-value : (b : List ℕ) → length b ≡ 1 → value_of b ≤ 1 → b ≡ flag_byte (eqb (value_of b) 1) ∷ []
unfolding value_of
flag-value [] l h = absurd (omega arith)
flag-value (v ∷ w ∷ b) l h = absurd (omega arith)
flag-value (zero ∷ []) l h = refl
flag-value (suc zero ∷ []) l h = refl
flag-value (suc (suc v) ∷ []) l h = absurd (omega arith)

flag-back : Back flag (λ p. flag_byte p ∷ [])
unfolding flag
flag-back bs h p rest e =
    let s = split (bytes 1 bs) _ e in
    let b = bytes_back 1 bs s.first in
    let t = past (ltb 1 (value_of s.x)) 9 _ s.second in
    let q = same-value t.1 in
    b.0 ∙ (λ i. flag-value s.x b.1 (ltb-false 1 (value_of s.x) t.0) i ++ s.rest) ∙ (λ i. (flag_byte (q.0 i) ∷ []) ++ q.1 i)

pub operand-back : Back operand operand_bytes
unfolding operand operand_bytes
operand-back bs h o rest e =
    let s = split (number bs) _ e in
    let first = number-back bs h s.x s.rest s.first in
    let t = split (number s.rest) _ s.second in
    let second = number-back s.rest (rest-bytes (le8 s.x) s.rest h first) t.x t.rest t.first in
    let q = same-value t.second in
    first
    ∙ ap (λ (l : List ℕ). le8 s.x ++ l) second
    ∙ sym (append_assoc (le8 s.x) (le8 t.x) t.rest)
    ∙ (λ i. (le8 (q.0 i).offset ++ le8 (q.0 i).len) ++ q.1 i)

-- ---- lists

module _ {A : Type 0} (one : List ℕ → Reading A) (f : A → List ℕ) (back : Back one f) where
  pub several-back : (n : ℕ) (bs : List ℕ) → Bytes bs → (xs : List A) (rest : List ℕ) → several one n bs ≡ value xs rest → (bs ≡ joined f xs ++ rest)
      × (length xs ≡ n)
  unfolding several joined
  several-back zero bs h xs rest e = let q = same-value e in ((λ i. joined f (q.0 i) ++ q.1 i), ap length (sym q.0))
  several-back (suc n) bs h xs rest e =
      let s = split (one bs) _ e in
      let first = back bs h s.x s.rest s.first in
      let t = split (several one n s.rest) _ s.second in
      let others = several-back n s.rest (rest-bytes (f s.x) s.rest h first) t.x t.rest t.first in
      let q = same-value t.second in (
        first
            ∙ ap (λ (l : List ℕ). f s.x ++ l) others.0
            ∙ sym (append_assoc (f s.x) (joined f t.x) t.rest)
            ∙ (λ i. joined f (q.0 i) ++ q.1 i),
        ap length (sym q.0) ∙ ap suc others.1,
      )

  pub entries-back : (room : ℕ) (none : A) (n : ℕ) (bs : List ℕ) → Bytes bs → (ys : List A) (rest : List ℕ) → entries one room none n bs ≡ value ys rest
      → bs ≡ joined f (take n ys) ++ rest
  unfolding entries filled
  entries-back room none n bs h ys rest e =
      let s = split (several one n bs) _ e in
      let b = several-back n bs h s.x s.rest s.first in
      let q = same-value s.second in
      let own : take n ys ≡ s.x = ap (take n) (sym q.0) ∙ take_at s.x _ n b.1 in
      b.0 ∙ (λ i. joined f (sym own i) ++ q.1 i)

-- ---- an instruction and a head

-- each begins with a name of k bytes, a count, and as many entries in an array; what is left is read as y
pub record Listed {A B : Type 0} (one : List ℕ → Reading A) (f : A → List ℕ) (room : ℕ) (none : A) (k : ℕ) (bs : List ℕ)
    (next : List ℕ → ℕ → List A → List ℕ → Reading B) (y : Reading B) : Type 0 where
  pub name : List ℕ
  pub behind-name : List ℕ
  pub count : ℕ
  pub behind-count : List ℕ
  pub list : List A
  pub rest : List ℕ
  pub named : bs ≡ name ++ behind-name
  pub long : length name ≡ k
  pub counted : behind-name ≡ le8 count ++ behind-count
  pub few : count ≤ room
  pub count-bytes : Bytes behind-count
  pub entered : entries one room none count behind-count ≡ value list rest
  pub listed : behind-count ≡ joined f (take count list) ++ rest
  pub bytes : Bytes rest
  pub left : next name count list rest ≡ y

pub begins : {A B : Type 0} (one : List ℕ → Reading A) (f : A → List ℕ) (back : Back one f) (room : ℕ) (none : A) (k : ℕ) (bs : List ℕ) → Bytes bs
    → (next : List ℕ → ℕ → List A → List ℕ → Reading B) (y : B) (end : List ℕ)
    → after (bytes k bs) (λ name r. after (limited room r) (λ n s. after (entries one room none n s) (λ xs t. next name n xs t))) ≡ value y end
    → Listed one f room none k bs next (value y end)
begins one f back room none k bs h next y end e =
    let s = split (bytes k bs) _ e in
    let name = bytes_back k bs s.first in
    let hs = rest-bytes s.x s.rest h name.0 in
    let t = split (limited room s.rest) _ s.second in
    let count = limited-back room s.rest hs t.x t.rest t.first in
    let ht = rest-bytes (le8 t.x) t.rest hs count in
    let u = split (entries one room none t.x t.rest) _ t.second in
    let list = entries-back one f back room none t.x t.rest ht u.x u.rest u.first in
    record {
      name = s.x;
      behind-name = s.rest;
      count = t.x;
      behind-count = t.rest;
      list = u.x;
      rest = u.rest;
      named = name.0;
      long = name.1;
      counted = count;
      few = limited-within room s.rest t.first;
      count-bytes = ht;
      entered = u.first;
      listed = list;
      bytes = rest-bytes (joined f (take t.x u.x)) u.rest ht list;
      left = u.second;
    }

pub instruction-back : Back instruction instruction_bytes
unfolding instruction instruction_bytes
instruction-back bs h x rest e =
    let l = begins operand operand_bytes operand-back 4 no_operand 16 bs h _ x rest e in
    let v = split (flag l.rest) _ l.left in
    in-front instruction_bytes (record { name = l.name; count = l.count; operands = l.list; proof = v.x }) v.rest v.second
    (four-in-front l.name (le8 l.count) (joined operand_bytes (take l.count l.list)) (flag_byte v.x ∷ []) v.rest
    l.named l.counted l.listed (flag-back l.rest l.bytes v.x v.rest v.first))

pub head-back : Back head encode
unfolding head encode
head-back bs h x rest e =
    let l = begins instruction instruction_bytes instruction-back 32 no_instruction 32 bs h _ x rest e in
    let v = split (limited 65536 l.rest) _ l.left in
    in-front encode (record { contract = l.name; count = l.count; instructions = l.list; length = v.x }) v.rest v.second
    (four-in-front l.name (le8 l.count) (joined instruction_bytes (take l.count l.list)) (le8 v.x) v.rest
    l.named l.counted l.listed (limited-back 65536 l.rest l.bytes v.x v.rest v.first))

-- A head is read from its first 2,896 bytes: reading bytes of which the last are cut off comes to the same, where enough are left.
-- Assumes nothing.
use Rattle.lists.proofs.Kit.{◌≡◌, refl, sym, ap, ◌∙◌, Bool, true, false, List, [], ◌∷◌, ℕ, zero, suc, ◌+◌, ◌-◌, ◌*◌, ◌≤◌, ◌<◌, suc-mul, arith, length}
use Rattle.lists.proofs.Kit.{take, drop, length-drop, take_all, take-take, take-add, drop_at, length-take-le, leb, ltb, le-ltb, leb-true, leb-false}
use Rattle.lists.specs.Pick.{pick}
use Rattle.lists.proofs.Laws.Pick.{by, skips}
use Rattle.sia.specs.Empty.{no_operand, no_instruction, no_head}
use Rattle.sia.specs.Decode.{Reading, value, fault, after, bytes, number, limited, flag, several, entries, operand, operands, instruction}
use Rattle.sia.specs.Decode.{instructions, head, told, answer, decode}
use Rattle.sia.proofs.Laws.Inverse.{split, past, same-value, limited-within}
use Rattle.sia.specs.declared.Head.{Head}

-- the last d bytes cut off
abbrev less : ℕ → List ℕ → List ℕ
less d bs = take (length bs - d) bs

unfoldable shorter : {A : Type 0} → ℕ → Reading A → Reading A
shorter d (value x rest) = value x (less d rest)
shorter d (fault n) = fault n

-- a section of at most k bytes
record Within {A : Type 0} (k : ℕ) (r : List ℕ → Reading A) : Type 0 where
  alike : (d : ℕ) (bs : List ℕ) → k + d ≤ length bs → r (less d bs) ≡ shorter d (r bs)
  uses : (bs : List ℕ) (x : A) (rest : List ℕ) → r bs ≡ value x rest → length bs ≤ length rest + k

-- ---- one section, and one behind another

wider : {A : Type 0} {r : List ℕ → Reading A} (k m : ℕ) → k ≤ m → Within k r → Within m r
wider k m h w = record { alike = λ d bs g. w.alike d bs (omega arith); uses = λ bs x rest e. omega (arith, w.uses bs x rest e) }

cut-after : {A B : Type 0} (next : A → List ℕ → Reading B) (d : ℕ) (q : Reading A)
    → ((x : A) (rest : List ℕ) → q ≡ value x rest → next x (less d rest) ≡ shorter d (next x rest))
    → after (shorter d q) next ≡ shorter d (after q next)
unfolding after shorter
cut-after next d (fault n) f = refl
cut-after next d (value x rest) f = f x rest refl

-- P is what is known of the first section's value
both-within : {A B : Type 0} (P : A → Type 0) (k m : ℕ) (r : List ℕ → Reading A) (next : A → List ℕ → Reading B) → Within k r
    → ((bs : List ℕ) (x : A) (rest : List ℕ) → r bs ≡ value x rest → P x) → ((x : A) → P x → Within m (next x)) → Within (k + m) (λ bs. after (r bs) next)
both-within P k m r next w p v = record {
  alike = λ d bs h. ap (λ q. after q next) (w.alike d bs (omega arith))
      ∙ cut-after next d (r bs) (λ x rest e. (v x (p bs x rest e)).alike d rest (omega (arith, w.uses bs x rest e)));
  uses = λ bs y end e.
      let s = split (r bs) next e in
      omega (arith, w.uses bs s.x s.rest s.first, (v s.x (p bs s.x s.rest s.first)).uses s.rest y end s.second);
}

then : {A B : Type 0} (k m : ℕ) (r : List ℕ → Reading A) (next : A → List ℕ → Reading B) → Within k r → ((x : A) → Within m (next x))
    → Within (k + m) (λ bs. after (r bs) next)
then {A} k m r next w v = both-within (λ (x : A). Unit {0}) k m r next w (λ bs x rest e. tt) (λ x u. v x)

no_bytes : {A : Type 0} (x : A) → Within 0 (λ rest. value x rest)
unfolding shorter
no_bytes x = record { alike = λ d bs h. refl; uses = λ bs y rest e. omega (arith, ap length (same-value e).1) }

tested : {A : Type 0} (t : Bool) (n : ℕ) (x : A) → Within 0 (λ rest. pick t (fault n) (value x rest))
unfolding shorter pick
tested true n x = record { alike = λ d bs h. refl; uses = λ bs y rest e. absurd (let z : ◌≡◌ {A = ℕ} 0 1 = cc in omega arith) }
tested false n x = record { alike = λ d bs h. refl; uses = λ bs y rest e. omega (arith, ap length (same-value e).1) }

-- ---- the sections of a head

drop-less : (n d : ℕ) (bs : List ℕ) → n + d ≤ length bs → drop n (less d bs) ≡ less d (drop n bs)
drop-less n d bs h =
    let m : length bs - d ≡ n + (length (drop n bs) - d) = omega (arith, length-drop n bs) in
    ap (drop n) (ap (λ (k : ℕ). take k bs) m ∙ take-add n (length (drop n bs) - d) bs) ∙ drop_at (take n bs) _ n (length-take-le n bs (omega arith))

bytes-within : (n : ℕ) → Within n (bytes n)
unfolding bytes shorter
bytes-within n = record {
  alike = λ d bs h.
      skips (ltb (length (less d bs)) n) _ _ (le-ltb (length (less d bs)) n (omega (arith, length-take-le (length bs - d) bs (omega arith))))
      ∙ (λ i. value (take-take n (length bs - d) bs (omega arith) i) (drop-less n d bs h i))
      ∙ ap (shorter d) (sym (skips (ltb (length bs) n) (fault 9) (value (take n bs) (drop n bs)) (le-ltb (length bs) n (omega arith))));
  uses = λ bs x rest e. omega (arith, length-drop n bs, ap length (same-value (past (ltb (length bs) n) 9 _ e).1).1);
}

number-within : Within 8 number
unfolding number
number-within = then 8 0 (bytes 8) _ (bytes-within 8) (λ b. no_bytes _)

limited-uses : (limit : ℕ) → Within 8 (limited limit)
unfolding limited
limited-uses limit = then 8 0 number _ number-within (λ n. tested _ 10 n)

flag-within : Within 1 flag
unfolding flag
flag-within = then 1 0 (bytes 1) _ (bytes-within 1) (λ b. tested _ 9 _)

several-within : {A : Type 0} (one : List ℕ → Reading A) (k n : ℕ) → Within k one → Within (n * k) (several one n)
unfolding several
several-within one k zero w = wider 0 _ (omega arith) (no_bytes [])
several-within one k (suc n) w =
    wider (k + (n * k + 0)) (suc n * k) (omega (arith, suc-mul n k))
    (then k (n * k + 0) one _ w (λ x. then (n * k) 0 (several one n) _ (several-within one k n w) (λ xs. no_bytes (x ∷ xs))))

entries-within : {A : Type 0} (one : List ℕ → Reading A) (k room : ℕ) (none : A) (n most : ℕ) → Within k one → n * k ≤ most
    → Within most (entries one room none n)
unfolding entries
entries-within one k room none n most w h = wider (n * k + 0) most (omega arith)
    (then (n * k) 0 (several one n) _ (several-within one k n w) (λ xs. no_bytes _))

operand-within : Within 16 operand
unfolding operand
operand-within = then 8 8 number _ number-within (λ o. then 8 0 number _ number-within (λ n. no_bytes _))

instruction-within : Within 89 instruction
unfolding instruction
instruction-within =
    then 16 73 (bytes 16) _ (bytes-within 16) (λ name.
    both-within (λ n. n ≤ 4) 8 65 (limited 4) _ (limited-uses 4) (λ bs n rest e. limited-within 4 bs e) (λ n few.
    then 64 1 (operands n) _ (entries-within operand 16 4 no_operand n 64 operand-within (omega arith)) (λ os.
    then 1 0 flag _ flag-within (λ p. no_bytes _))))

head-within : Within 2896 head
unfolding head
head-within =
    then 32 2864 (bytes 32) _ (bytes-within 32) (λ id.
    both-within (λ n. n ≤ 32) 8 2856 (limited 32) _ (limited-uses 32) (λ bs n rest e. limited-within 32 bs e) (λ n few.
    then 2848 8 (instructions n) _ (entries-within instruction 89 32 no_instruction n 2848 instruction-within (omega arith)) (λ is.
    then 8 0 (limited 65536) _ (limited-uses 65536) (λ d. no_bytes _))))

-- ---- the reader's answer

-- "bytes left over give 9"
left_over : (h : Head) (rest : List ℕ) → 0 < length rest → answer (value h rest) ≡ told 9 no_head
unfolding answer
left_over h [] g = absurd (omega arith)
left_over h (b ∷ bs) g = refl

same_answer : (d : ℕ) (q : Reading Head) → ((h : Head) (rest : List ℕ) → q ≡ value h rest → d < length rest) → answer (shorter d q) ≡ answer q
unfolding answer shorter
same_answer d (fault n) f = refl
same_answer d (value h rest) f =
    let long = f h rest refl in
    left_over h (less d rest) (omega (arith, long, length-take-le (length rest - d) rest (omega arith))) ∙ sym (left_over h rest (omega (arith, long)))

-- the first 2,897 bytes are enough
pub first-bytes : (bs : List ℕ) → decode (take 2897 bs) ≡ decode bs
unfolding decode
first-bytes bs =
    by (leb (length bs) 2897)
    (λ u. ap (λ (l : List ℕ). answer (head l)) (take_all 2897 bs (leb-true _ 2897 u)))
    (λ u.
    let d : ℕ = length bs - 2897 in
    let long : 2897 < length bs = leb-false (length bs) 2897 u in
    let k : 2897 ≡ length bs - d = omega arith in
    ap (λ (n : ℕ). answer (head (take n bs))) k
    ∙ ap answer (head-within.alike d bs (omega arith))
    ∙ same_answer d (head bs) (λ h rest e. omega (arith, head-within.uses bs h rest e)))

-- "65,536 bytes declared", also of the empty head
declared-of : (q : Reading Head) → ((h : Head) (rest : List ℕ) → q ≡ value h rest → h.length ≤ 65536) → (answer q).head.length ≤ 65536
unfolding answer
declared-of (fault n) f = omega arith
declared-of (value h []) f = f h [] refl
declared-of (value h (b ∷ bs)) f = omega arith

pub declared-most : (bs : List ℕ) → (decode bs).head.length ≤ 65536
unfolding decode head
declared-most bs =
    declared-of (head bs) (λ h rest e.
    let a = split (bytes 32 bs) _ e in
    let b = split (limited 32 a.rest) _ a.second in
    let c = split (instructions b.x b.rest) _ b.second in
    let d = split (limited 65536 c.rest) _ c.second in
    omega (arith, limited-within 65536 c.rest d.first, ap (λ (x : Head). x.length) (same-value d.second).0))

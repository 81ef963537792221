-- Reading what was written: each section, in front of any bytes, is read as what it was made of. Assumes nothing.
use Rattle.lists.proofs.Kit.{◌≡◌, refl, sym, ap, ◌∙◌, Bool, true, false, List, [], ◌∷◌, ◌++◌, append_assoc, append-nil, map, ℕ, zero, suc, ◌^◌, ◌≤◌, ◌<◌}
use Rattle.lists.proofs.Kit.{arith, length, take, length-append, take_at, drop_at, length-take-le, le-ltb, leb-true}
use Rattle.lists.specs.Pick.{pick}
use Rattle.lists.specs.Tests.{every}
use Rattle.lists.proofs.Laws.Pick.{skips, both_left, both_right}
use Rattle.area.specs.Little.{value_of, le8}
use Rattle.area.proofs.Laws.Little.{length-bytes, value-bytes}
use Rattle.sia.specs.declared.Operand.{Operand}
use Rattle.sia.specs.declared.Instruction.{Instruction}
use Rattle.sia.specs.declared.Head.{Head}
use Rattle.sia.specs.Empty.{no_operand, no_instruction, filled}
use Rattle.sia.specs.Encode.{joined, operand_bytes, flag_byte, operands_in, instructions_in, instruction_bytes, encode, few_operands}
use Rattle.sia.specs.Decode.{Reading, value, after, bytes, number, limited, flag, several, entries, operand, instruction, head, decode, answer, told}
use Rattle.sia.specs.Trim.{trimmed_instruction, trimmed, Each, ProperOperand, ProperInstruction, Proper}
use Rattle.sia.proofs.Laws.Joined.{append-four}
use Rattle.sia.proofs.Laws.Limits.{Within}

-- the section behind one that is read
follow : {A B : Type 0} (next : A → List ℕ → Reading B) {r : Reading A} {x : A} {rest : List ℕ} {s : Reading B} → r ≡ value x rest → next x rest ≡ s
    → after r next ≡ s
unfolding after
follow next e q = ap (λ (t : Reading _). after t next) e ∙ q

bytes-there : (n : ℕ) (xs rest : List ℕ) → length xs ≡ n → bytes n (xs ++ rest) ≡ value xs rest
unfolding bytes
bytes-there n xs rest e =
    let l : n ≤ length (xs ++ rest) = omega (arith, length-append xs rest) in
    skips _ _ _ (le-ltb (length (xs ++ rest)) n l) ∙ (λ i. value (take_at xs rest n e i) (drop_at xs rest n e i))

number-there : (n : ℕ) (rest : List ℕ) → n < 2 ^ 64 → number (le8 n ++ rest) ≡ value n rest
unfolding number
number-there n rest h = follow _ (bytes-there 8 (le8 n) rest (length-bytes 8 n)) (ap (λ (m : ℕ). value m rest) (value-bytes 8 n h))

limited-there : (limit n : ℕ) (rest : List ℕ) → n < 2 ^ 64 → n ≤ limit → limited limit (le8 n ++ rest) ≡ value n rest
unfolding limited
limited-there limit n rest h k = follow _ (number-there n rest h) (skips _ _ _ (le-ltb limit n k))

flag-there : (p : Bool) (rest : List ℕ) → flag ((flag_byte p ∷ []) ++ rest) ≡ value p rest
unfolding flag pick value_of
flag-there true rest = follow _ (bytes-there 1 (1 ∷ []) rest refl) refl
flag-there false rest = follow _ (bytes-there 1 (0 ∷ []) rest refl) refl

operand-there : (o : Operand) → ProperOperand o → (rest : List ℕ) → operand (operand_bytes o ++ rest) ≡ value o rest
unfolding operand operand_bytes
operand-there o h rest =
    ap operand (append_assoc (le8 o.offset) (le8 o.len) rest)
    ∙ follow _ (number-there o.offset (le8 o.len ++ rest) h.offset) (follow _ (number-there o.len rest h.len) refl)

-- ---- lists

module _ {A : Type 0} (one : List ℕ → Reading A) (f : A → List ℕ) (g : A → A) (P : A → Type 0)
    (there : (x : A) → P x → (rest : List ℕ) → one (f x ++ rest) ≡ value (g x) rest) where
  several-there : (xs : List A) → Each P xs → (rest : List ℕ) → several one (length xs) (joined f xs ++ rest) ≡ value (map g xs) rest
  unfolding several joined Each
  several-there [] h rest = refl
  several-there (x ∷ xs) h rest =
      ap (several one (suc (length xs))) (append_assoc (f x) (joined f xs) rest)
      ∙ follow _ (there x h.0 (joined f xs ++ rest)) (follow _ (several-there xs h.1 rest) refl)

  pub entries-there : (room : ℕ) (none : A) (n : ℕ) (xs : List A) → length xs ≡ n → Each P xs → (rest : List ℕ)
      → entries one room none n (joined f xs ++ rest) ≡ value (filled room none (map g xs)) rest
  unfolding entries
  entries-there room none n xs e h rest =
      ap (λ (m : ℕ). entries one room none m (joined f xs ++ rest)) (sym e) ∙ follow _ (several-there xs h rest) refl

pub each_take : {A : Type 0} (P : A → Type 0) (xs : List A) (n : ℕ) → Each P xs → Each P (take n xs)
unfolding Each
each_take P xs zero h = tt
each_take P [] (suc n) h = tt
each_take P (x ∷ xs) (suc n) h = (h.0, each_take P xs n h.1)

map_same : (os : List Operand) → map (λ o. o) os ≡ os
map_same [] = refl
map_same (o ∷ os) = ap (λ (l : List Operand). o ∷ l) (map_same os)

-- ---- an instruction and a head

-- what an instruction within limits has
abbrev pub Fit : Instruction → Type 0
Fit x = ProperInstruction x × (x.count ≤ 4)

instruction-there : (x : Instruction) → Fit x → (rest : List ℕ) → instruction (instruction_bytes x ++ rest) ≡ value (trimmed_instruction x) rest
unfolding instruction instruction_bytes trimmed_instruction
instruction-there x h rest =
    let long = length-take-le x.count x.operands (omega (arith, h.0.operands)) in
    ap instruction (append-four x.name (le8 x.count) (joined operand_bytes (operands_in x)) (flag_byte x.proof ∷ []) rest)
    ∙ follow _ (bytes-there 16 x.name _ h.0.name)
    (follow _ (limited-there 4 x.count _ (omega arith) h.1)
    (follow _ (entries-there operand operand_bytes (λ o. o) ProperOperand operand-there 4 no_operand x.count (operands_in x) long
    (each_take ProperOperand x.operands x.count h.0.each) _)
    (follow _ (flag-there x.proof rest)
    (ap (λ (os : List Operand). value (record { name = x.name; count = x.count; operands = filled 4 no_operand os; proof = x.proof }) rest)
    (map_same (operands_in x))))))

all_fit : (xs : List Instruction) → Each ProperInstruction xs → every few_operands xs ≡ true → Each Fit xs
unfolding Each every
all_fit [] h e = tt
all_fit (x ∷ xs) h e = ((h.0, leb-true _ _ (both_left _ _ e)), all_fit xs h.1 (both_right _ _ e))

head-there : (h : Head) → Proper h → Within h → (rest : List ℕ) → head (encode h ++ rest) ≡ value (trimmed h) rest
unfolding head encode trimmed
head-there h p w rest =
    let long = length-take-le h.count h.instructions (omega (arith, p.instructions, w.count)) in
    let fit = all_fit (instructions_in h) (each_take ProperInstruction h.instructions h.count p.each) w.few in
    ap head (append-four h.contract (le8 h.count) (joined instruction_bytes (instructions_in h)) (le8 h.length) rest)
    ∙ follow _ (bytes-there 32 h.contract _ p.contract)
    (follow _ (limited-there 32 h.count _ (omega (arith, w.count)) w.count)
    (follow _ (entries-there instruction instruction_bytes trimmed_instruction Fit instruction-there 32 no_instruction h.count (instructions_in h) long fit _)
    (follow _ (limited-there 65536 h.length rest (omega (arith, w.declared)) w.declared)
    refl)))

pub decode-encode : (h : Head) → Proper h → Within h → decode (encode h) ≡ told 0 (trimmed h)
unfolding decode answer
decode-encode h p w = ap decode (sym (append-nil (encode h))) ∙ ap answer (head-there h p w [])

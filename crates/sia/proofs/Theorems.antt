-- What holds of every head, number, name and id. Assumes nothing.
use Rattle.lists.proofs.Kit.{◌≡◌, refl, sym, ap, ◌∙◌, true, not, List, [], ◌∷◌, append-nil, ℕ, ◌+◌, ◌*◌, ◌^◌, ◌≤◌, ◌<◌, arith, length, get_or, length-append}
use Rattle.lists.proofs.Kit.{ext_get_or, length-take-le, eqb, ltb, eq-eqb, eqb-true, le-ltb, leb-true}
use Rattle.lists.specs.Pick.{pick}
use Rattle.lists.specs.Tests.{every}
use Rattle.lists.proofs.Laws.Pick.{picks, skips, by, both_left, both_right}
use Rattle.area.specs.Area.{same, put}
use Rattle.area.specs.Little.{value_of, bytes_of, le8, Bytes}
use Rattle.area.proofs.Laws.Same.{same-eq, eq-same}
use Rattle.area.proofs.Laws.Little.{length-bytes, value-bytes, bytes-value}
use Rattle.sia.specs.declared.Op.{Op}
use Rattle.sia.specs.declared.Op.TheVariants.{Read, ReadSector, Write, Copy, Swap, Truncate, Unknown}
use Rattle.sia.specs.declared.Instruction.{Instruction}
use Rattle.sia.specs.declared.Head.{Head}
use Rattle.sia.specs.Decode.{Told}
use Rattle.sia.specs.Number.{Decoded, decoded, number}
use Rattle.sia.specs.Names.{name_of, op_of}
use Rattle.sia.specs.Empty.{no_head, filled}
use Rattle.sia.specs.Encode.{joined, operand_bytes, instruction_bytes, instructions_in, encode, few_operands, within, Left, left, write}
use Rattle.sia.specs.Decode.{Reading, value, fault, head, answer, decode, told}
use Rattle.sia.specs.Trim.{trimmed, Each, ProperInstruction, Proper, operand_count}
use Rattle.sia.specs.Bench.{truncate, truncate_alone}
use Rattle.sia.proofs.Laws.Limits.{within-is}
use Rattle.sia.proofs.Laws.Joined.{length-instruction, length-head}
use Rattle.sia.proofs.Laws.There.{decode-encode, each_take}
use Rattle.sia.proofs.Laws.Honest.{read-of}
use Rattle.sia.proofs.Laws.Back.{head-back}
use Rattle.sia.proofs.Laws.Proper.{head-good}

-- ---- heads

-- Reading what was written gives the head back, its entries past a count as 0.
pub reading-what-was-written : (h : Head) → Proper h → within h ≡ true → decode (encode h) ≡ told 0 (trimmed h)
reading-what-was-written h p w = decode-encode h p (within-is h w)

-- On a fault the reader answers the empty head.
pub refused-read : (bs : List ℕ) → ((decode bs).number ≡ 0 → ⊥) → (decode bs).head ≡ no_head
unfolding decode answer
refused-read bs n = go (head bs) n where
  go : (r : Reading Head) → ((answer r).number ≡ 0 → ⊥) → (answer r).head ≡ no_head
  go (value h []) n = absurd (n refl)
  go (value h (b ∷ rest)) n = refl
  go (fault k) n = refl

-- Writing what was read gives the same bytes back.
pub writing-what-was-read : (bs : List ℕ) → Bytes bs → (h : Head) → decode bs ≡ told 0 h → encode h ≡ bs
writing-what-was-read bs b h e = sym (head-back bs b h [] (read-of bs h e) ∙ append-nil (encode h))

-- A head that was read is proper, within limits, and 0 past its counts.
pub read-proper : (bs : List ℕ) → Bytes bs → (h : Head) → decode bs ≡ told 0 h → Proper h
read-proper bs b h e = (head-good bs b h [] (read-of bs h e)).proper

pub read-within : (bs : List ℕ) → Bytes bs → (h : Head) → decode bs ≡ told 0 h → within h ≡ true
read-within bs b h e = (head-good bs b h [] (read-of bs h e)).limits

pub read-trimmed : (bs : List ℕ) → Bytes bs → (h : Head) → decode bs ≡ told 0 h → trimmed h ≡ h
read-trimmed bs b h e =
    ap (λ (t : Told). t.head)
    (sym (reading-what-was-written h (read-proper bs b h e) (read-within bs b h e)) ∙ ap decode (writing-what-was-read bs b h e) ∙ e)

-- So the writer writes it, over any area that is long enough.
pub written-again : (bs : List ℕ) → Bytes bs → (h : Head) → decode bs ≡ told 0 h → (area : List ℕ) → length bs ≤ length area
    → write h area ≡ left (record { number = 0; length = length bs }) (put area 0 bs)
unfolding write
written-again bs b h e area l =
    let q = writing-what-was-read bs b h e in
    let w : within h ≡ true = read-within bs b h e in
    let m : length (encode h) ≤ length area = omega (arith, ap length q) in
    skips _ _ _ (rw w)
    ∙ skips _ _ _ (le-ltb (length area) (length (encode h)) m)
    ∙ (λ i. left (record { number = 0; length = length (q i) }) (put area 0 (q i)))

-- A refusal of the writer leaves the area as it was and answers length 0.
pub refused-write : (h : Head) (area : List ℕ) → ((write h area).answer.number ≡ 0 → ⊥) → ((write h area).area ≡ area) × ((write h area).answer.length ≡ 0)
unfolding write
refused-write h area n =
    by (not (within h)) (λ t. kept (picks _ _ _ t))
    (λ f. let past = skips (not (within h)) _ _ f in
    by (ltb (length area) (length (encode h))) (λ t. kept (past ∙ picks _ _ _ t))
    (λ g. absurd (n (ap (λ (l : Left). l.answer.number) (past ∙ skips _ _ _ g))))) where
      kept : {k : ℕ} → write h area ≡ left (record { number = k; length = 0 }) area → ((write h area).area ≡ area) × ((write h area).answer.length ≡ 0)
      kept e = (ap (λ (l : Left). l.area) e, ap (λ (l : Left). l.answer.length) e)

-- ---- lengths

lengths : (xs : List Instruction) → Each ProperInstruction xs → every few_operands xs ≡ true → length (joined instruction_bytes xs)
    ≡ 25 * length xs + 16 * operand_count xs
unfolding joined Each every operand_count
lengths [] p e = refl
lengths (x ∷ xs) p e =
    omega (
      arith,
      length-append (instruction_bytes x) (joined instruction_bytes xs),
      length-instruction x p.0.name p.0.operands
          (leb-true _ _ (both_left _ _ e)),
      lengths xs p.1 (both_right _ _ e),
    )

-- A head is 48 bytes, 25 for each instruction and 16 for each operand.
pub head-length : (h : Head) → Proper h → within h ≡ true → length (encode h) ≡ 48 + 25 * h.count + 16 * operand_count (instructions_in h)
head-length h p e =
    let w = within-is h e in
    omega (
      arith,
      length-head h p.contract,
      lengths (instructions_in h) (each_take ProperInstruction h.instructions h.count p.each) w.few,
      length-take-le h.count h.instructions (omega (arith, p.instructions, w.count)),
    )

-- "(P) Truncate(4,096) alone, 8 data bytes: head 89 bytes", for every contract
pub truncate-alone : (id : List ℕ) → length id ≡ 32 → length (encode (truncate_alone id)) ≡ 89
unfolding encode truncate_alone truncate instruction_bytes operand_bytes joined filled bytes_of
truncate-alone id e = length-append id _ ∙ ap (λ (n : ℕ). n + 57) e

-- ---- ids

-- Two ids are the same exactly when all 32 bytes are equal.
pub same_bytes : (one two : List ℕ) → length one ≡ 32 → length two ≡ 32 → ((i : ℕ) → i < 32 → get_or one i 0 ≡ get_or two i 0) → same one two ≡ true
same_bytes one two p q h = eq-same one two (ext_get_or 0 one two (p ∙ sym q) (λ i l. h i (omega arith)))

pub bytes_same : (one two : List ℕ) → same one two ≡ true → (i : ℕ) → get_or one i 0 ≡ get_or two i 0
bytes_same one two e i = ap (λ (l : List ℕ). get_or l i 0) (same-eq one two e)

-- ---- names

-- The name of each instruction is read as that instruction.
pub op-of-name : (o : Op) → op_of (name_of o) ≡ o
unfolding op_of same pick
op-of-name Read = refl
op-of-name ReadSector = refl
op-of-name Write = refl
op-of-name Copy = refl
op-of-name Swap = refl
op-of-name Truncate = refl
op-of-name Unknown = refl

-- And a name that is read as an instruction is its name, in all 16 bytes.
tried : (w : Op) (name : List ℕ) (rest o : Op) → pick (same name (name_of w)) w rest ≡ o → (rest ≡ o → name ≡ name_of o) → name ≡ name_of o
tried w name rest o e k =
    by (same name (name_of w)) (λ t. same-eq name (name_of w) t ∙ ap name_of (sym (picks _ w rest t) ∙ e)) (λ f. k (sym (skips _ w rest f) ∙ e))

pub name-of-op : (name : List ℕ) (o : Op) → (o ≡ Unknown → ⊥) → op_of name ≡ o → name ≡ name_of o
unfolding op_of
name-of-op name o known e =
    tried Read name _ o e
    (λ e. tried ReadSector name _ o e
    (λ e. tried Write name _ o e
    (λ e. tried Copy name _ o e
    (λ e. tried Swap name _ o e
    (λ e. tried Truncate name _ o e
    (λ e. absurd (known (sym e))))))))

-- ---- numbers

-- A number of 64 bits is read back from its 8 bytes.
pub number-of-bytes : (n : ℕ) → n < 2 ^ 64 → number (le8 n) ≡ decoded 0 n
unfolding number
number-of-bytes n h = picks _ _ _ (eq-eqb (length (le8 n)) 8 (length-bytes 8 n)) ∙ ap (decoded 0) (value-bytes 8 n h)

-- Bytes that are a number are its 8 bytes.
pub bytes-of-number : (bs : List ℕ) → Bytes bs → (n : ℕ) → number bs ≡ decoded 0 n → le8 n ≡ bs
unfolding number
bytes-of-number bs b n e =
    by (eqb (length bs) 8)
    (λ t.
    let v : value_of bs ≡ n = ap (λ (d : Decoded). d.value) (sym (picks (eqb (length bs) 8) _ _ t) ∙ e) in
    sym (λ i. bytes_of (eqb-true (length bs) 8 t i) (v i)) ∙ bytes-value bs b)
    (λ f. absurd (omega (arith, ap (λ (d : Decoded). d.number) (sym (skips (eqb (length bs) 8) _ _ f) ∙ e))))

-- The inputs of an instruction by its operands, and what the decoder tells of all of them. Assumes nothing.
use Rattle.lists.proofs.Kit.{◌≡◌, refl, sym, ap, ◌∙◌, true, false, List, [], ◌∷◌, ◌++◌, ℕ, zero, suc, ◌+◌, ◌-◌, ◌≤◌, ◌<◌, arith, length, take, drop, get_or}
use Rattle.lists.proofs.Kit.{length-drop, take_all, take-suc, not-false, ltb-false, eqb-true}
use Rattle.lists.specs.Tests.{some, each}
use Rattle.lists.specs.Tab.{tab}
use Rattle.lists.proofs.Laws.Pick.{yes, no, picks, both-join, both_right, either_left, either-right}
use Rattle.lists.proofs.Laws.Some.{some-taken}
use Rattle.lists.proofs.Laws.Tab.{tab-snoc}
use Rattle.lists.proofs.Laws.Each.{each_both}
use Rattle.area.specs.Area.{part, zeros}
use Rattle.area.proofs.Laws.Parts.{length_part, part-part}
use Rattle.sia.specs.Names.{op_of}
use Rattle.sia.specs.Number.{decoded, number}
use Rattle.sia.specs.Empty.{no_operand}
use Rattle.machine_rules.specs.Inputs.{data_in, ill_formed, past_end, inputs_of, nth, is_key, well_formed, read_args, span_args, args_of}
use Rattle.machine_rules.specs.Kinds.{known, operands_of, kind}
use Rattle.sia.specs.declared.Operand.{Operand}
use Rattle.sia.specs.declared.Instruction.{Instruction}
use Rattle.sia.specs.declared.Op.{Op}
use Rattle.sia.specs.declared.Op.TheVariants.{Read, ReadSector, Write, Copy, Swap, Truncate}
use Rattle.machine_inputs.specs.Ends.{ends_past}
use Rattle.machine_inputs.specs.Given.{input_at, one, two, three, key_of, data_of, malformed, given, data_from, from_of}
use Rattle.machine_inputs.proofs.Laws.Decoders.{tells-test, key-told, key-bytes, number-told, number-value, data-told, data-value, data-long}
use Rattle.machine_rules.specs.declared.Args.{Args}
use Rattle.machine_inputs.specs.Given.{Given}
use Rattle.machine_inputs.specs.Given.{Key}

-- ---- all inputs

pub refused : (op : Op) (l : List (List ℕ)) (from : ℕ) → well_formed op l ≡ false → malformed ≡ given op l from
unfolding given
refused op l from e = no _ _ _ e refl

pub accepted : (op : Op) (l : List (List ℕ)) (from : ℕ) (a : Args) → well_formed op l ≡ true → a ≡ args_of op l
    → record { told = true; args = a; from = from } ≡ given op l from
unfolding given
accepted op l from a e q = yes _ _ _ e (ap (λ (x : Args). record { told = true; args = x; from = from }) q)

module _ (area : List ℕ) (os : List Operand) (m n : ℕ) where
  pub read-accepted : (k : Key) → k ≡ key_of (input_at area os 0) → k.told ≡ true
      → number (input_at area os 1) ≡ decoded 0 m
      → number (input_at area os 2) ≡ decoded 0 n
      → record { told = true; args = record { key = k.bytes; first = m; second = 0; len = n }; from = 0 } ≡ given Read (three area os) 0
  unfolding well_formed three args_of read_args
  read-accepted k e t p q =
      let right : is_key (input_at area os 0) ≡ true = sym (key-told _ k e) ∙ t in
      let one = key-bytes _ k e right in
      let two = number-value _ m p in
      let last = number-value _ n q in
      accepted Read (three area os) 0 _ (both-join _ _ right (both-join _ _ (number-told _ m p) (number-told _ n q)))
      (λ i. record { key = one i; first = two i; second = 0; len = last i })

  pub span-accepted : (k : ℕ) → number (input_at area os 0) ≡ decoded 0 k → number (input_at area os 1) ≡ decoded 0 m
      → number (input_at area os 2) ≡ decoded 0 n
      → record { told = true; args = record { key = zeros 32; first = k; second = m; len = n }; from = 0 } ≡ given Copy (three area os) 0
  unfolding well_formed three args_of span_args
  span-accepted k e p q =
      let one = number-value _ k e in
      let two = number-value _ m p in
      let last = number-value _ n q in
      accepted Copy (three area os) 0 _ (both-join _ _ (number-told _ k e) (both-join _ _ (number-told _ m p) (number-told _ n q)))
      (λ i. record { key = zeros 32; first = one i; second = two i; len = last i })

  pub write-accepted : number (input_at area os 0) ≡ decoded 0 m → data_of (input_at area os 1) ≡ decoded 0 n
      → record { told = true; args = record { key = zeros 32; first = m; second = 0; len = n }; from = data_from os } ≡ given Write (two area os) (data_from os)
  unfolding well_formed two args_of
  write-accepted p q =
      let one = number-value _ m p in
      let last = data-value _ n q in
      accepted Write (two area os) (data_from os) _ (both-join _ _ (number-told _ m p) (data-told _ n q))
      (λ i. record { key = zeros 32; first = one i; second = 0; len = last i })

pub size-accepted : (area : List ℕ) (os : List Operand) (m : ℕ) → number (input_at area os 0) ≡ decoded 0 m
    → record { told = true; args = record { key = zeros 32; first = m; second = 0; len = 0 }; from = 0 } ≡ given Truncate (one area os) 0
unfolding well_formed one args_of
size-accepted area os m p =
    let new = number-value _ m p in
    accepted Truncate (one area os) 0 _ (number-told _ m p) (λ i. record { key = zeros 32; first = new i; second = 0; len = 0 })

-- ---- operands

-- operand k of n ends within the input
pub ends-within : (declared : ℕ) (l : List Operand) (n k : ℕ) → length l ≡ 4 → some (ends_past declared) (take n l) ≡ false → k < n → k < 4
    → (get_or l k no_operand).offset + (get_or l k no_operand).len ≤ declared
ends-within declared l n k long e h g = ltb-false _ _ (some-taken (ends_past declared) l n k no_operand e h (omega arith))

-- the operand count of a well-formed instruction
pub count-right : (i : Instruction) (op : Op) → op ≡ op_of i.name → ill_formed i ≡ false → i.count ≡ operands_of op
unfolding ill_formed
count-right i op q e = eqb-true _ _ (not-false _ (either-right _ _ e)) ∙ ap operands_of (sym q)

pub name-known : (i : Instruction) (op : Op) → op ≡ op_of i.name → ill_formed i ≡ false → known op ≡ true
unfolding ill_formed
name-known i op q e = ap known q ∙ not-false _ (either_left _ _ e)

pub within_count : (declared : ℕ) (i : Instruction) (n : ℕ) → i.count ≡ n → past_end declared i ≡ false
    → some (ends_past declared) (take n i.operands) ≡ false
unfolding past_end
within_count declared i n q e = ap (λ (k : ℕ). some (ends_past declared) (take k i.operands)) (sym q) ∙ e

module _ (area : List ℕ) where
  abbrev input : Operand → List ℕ
  input o = part area o.offset o.len

  first-inputs : (os : List Operand) (n : ℕ) → n ≤ length os → each input (take n os) ≡ tab 0 n (input_at area os)
  unfolding each tab
  first-inputs os zero h = refl
  first-inputs os (suc n) h =
      let e : 0 + n ≡ n = omega arith in
      ap (each input) (take-suc os n no_operand (omega arith)) ∙ each_both input (take n os) (get_or os n no_operand ∷ [])
      ∙ ap (λ (l : List (List ℕ)). l ++ (input_at area os n ∷ [])) (first-inputs os n (omega arith))
      ∙ sym (tab-snoc 0 n (input_at area os) ∙ ap (λ (k : ℕ). tab 0 n (input_at area os) ++ (input_at area os k ∷ [])) e)

  pub inputs_are : (i : Instruction) {n : ℕ} → length i.operands ≡ 4 → i.count ≡ n → n ≤ 4 → tab 0 n (input_at area i.operands) ≡ inputs_of i area
  unfolding inputs_of
  inputs_are i {n} long e h = sym (ap (λ (k : ℕ). each input (take k i.operands)) e ∙ first-inputs i.operands n (omega arith))

-- Read and ReadSector, and Copy and Swap, have the same inputs
pub reads-alike : (l : List (List ℕ)) → given Read l 0 ≡ given ReadSector l 0
unfolding given well_formed args_of
reads-alike l = refl

pub swaps-alike : (l : List (List ℕ)) → given Copy l 0 ≡ given Swap l 0
unfolding given well_formed args_of
swaps-alike l = refl

-- ---- what the decoder tells is what the definitions say of the inputs

-- the bytes behind the count
data-part : (area : List ℕ) (at n : ℕ) → at + n ≤ length area → 8 ≤ length (part area at n)
    → part area (at + 8) (length (part area at n) - 8) ≡ drop 8 (part area at n)
unfolding part
data-part area at n h g =
    let long = length_part area at n h in
    let rest : length (drop 8 (part area at n)) ≡ n - 8 = length-drop 8 (part area at n) ∙ ap (λ (k : ℕ). k - 8) long in
    ap (λ (k : ℕ). part area (at + 8) (k - 8)) long
    ∙ sym (part-part area at n 8 (n - 8) (omega arith)) ∙ whole (drop 8 (part area at n)) (n - 8) (sym rest) where
      whole : (l : List ℕ) (k : ℕ) → k ≡ length l → take k l ≡ l
      whole l k e = take_all k l (omega arith)

pub data-given : (area : List ℕ) (i : Instruction) → length i.operands ≡ 4 → i.count ≡ operands_of Write → past_end (length area) i ≡ false
    → well_formed Write (inputs_of i area) ≡ true
    → part area (from_of Write i) (args_of Write (inputs_of i area)).len ≡ data_in (inputs_of i area)
unfolding kind well_formed two tab args_of data_in from_of
data-given area i long right g w =
    let o = get_or i.operands 1 no_operand in
    let l : nth (inputs_of i area) 1 ≡ input_at area i.operands 1 = ap (λ (x : List (List ℕ)). nth x 1) (sym (inputs_are area i long right (omega arith))) in
    let within : o.offset + o.len ≤ length area = ends-within (length area) i.operands 2 1 long (within_count (length area) i 2 right g) (omega arith)
    (omega arith) in
    let eight : 8 ≤ length (input_at area i.operands 1) = rw l at (data-long (nth (inputs_of i area) 1) (both_right _ _ w)) in
    ap (λ (b : List ℕ). part area (o.offset + 8) (length b - 8)) l ∙ data-part area o.offset o.len within eight ∙ ap (drop 8) (sym l)

-- ---- what the decoder told

pub told_is : (op : Op) (l : List (List ℕ)) (from : ℕ) (g : Given) → g ≡ given op l from → g.told ≡ well_formed op l
unfolding given malformed
told_is op l from g e = ap (λ (x : Given). x.told) e ∙ tells-test (λ (x : Given). x.told) _ _ _ refl refl

pub args_are : (op : Op) (l : List (List ℕ)) (from : ℕ) (g : Given) → g ≡ given op l from → well_formed op l ≡ true → g.args ≡ args_of op l
unfolding given
args_are op l from g e u = ap (λ (x : Given). x.args) (e ∙ picks _ _ _ u)

pub from_is : (op : Op) (l : List (List ℕ)) (from : ℕ) (g : Given) → g ≡ given op l from → well_formed op l ≡ true → g.from ≡ from
unfolding given
from_is op l from g e u = ap (λ (x : Given). x.from) (e ∙ picks _ _ _ u)

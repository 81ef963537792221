-- `machine_inputs::decoding::decoded` meets its contract, arm by arm: the operation told has so many operands, and its decoder answers. Assumes nothing.
use Rattle.lists.proofs.Kit.{◌≡◌, refl, sym, ap, ◌∙◌, false, List, ℕ, ◌≤◌, arith, length, take}
use Rattle.lists.specs.Tests.{some}
use Rattle.lists.specs.Tab.{tab}
use Rattle.lists.proofs.Laws.Pick.{never}
use Rattle.sia.specs.Names.{op_of}
use Rattle.machine_rules.specs.Inputs.{inputs_of, ill_formed, past_end}
use Rattle.machine_rules.specs.Kinds.{known, operands_of, kind}
use Rattle.machine_inputs.specs.Ends.{ends_past}
use Rattle.machine_inputs.specs.Given.{input_at, one, two, three, given, from_of}
use Rattle.machine_inputs.proofs.Laws.Given.{count-right, reads-alike, swaps-alike, name-known, within_count, inputs_are}
use Rattle.sia.specs.declared.Op.{Op}
use Rattle.sia.specs.declared.Op.TheVariants.{Read, ReadSector, Copy, Swap}
use mathlib.Core.Logic.{⊎_elim}
use Rattle.sia.specs.declared.Instruction.{Instruction}
use Rattle.machine_inputs.specs.Given.{Given}
use Rattle.sia.proofs.Laws.Known.{known-instruction}
use Rattle.machine_inputs.proofs.decoding.decoded.Goals as goal

-- ---- an arm: the operation is o
counted : (i : Instruction) {op o : Op} → op ≡ op_of i.name → ill_formed i ≡ false → op ≡ o → i.count ≡ operands_of o
counted i is formed q = count-right i _ is formed ∙ ap operands_of q

within : (input : List ℕ) (i : Instruction) {op o : Op} → op ≡ op_of i.name → ill_formed i ≡ false → past_end (length input) i ≡ false → op ≡ o
    → some (ends_past (length input)) (take (operands_of o) i.operands) ≡ false
within input i {o = o} is formed ends q = within_count _ i (operands_of o) (counted i is formed q) ends

arm : (input : List ℕ) (i : Instruction) {op o : Op} → length i.operands ≡ 4 → op ≡ op_of i.name → ill_formed i ≡ false → op ≡ o → operands_of o ≤ 4
    → given o (tab 0 (operands_of o) (input_at input i.operands)) (from_of o i) ≡ given op (inputs_of i input) (from_of op i)
arm input i {o = o} long is formed q few =
    ap (λ (l : List (List ℕ)). given o l (from_of o i)) (inputs_are input i long (counted i is formed q) few)
    ∙ ap (λ (x : Op). given x (inputs_of i input) (from_of x i)) (sym q)

-- there is no such operation
none-such : (input : List ℕ) (i : Instruction) {op o : Op} {r : Given} → op ≡ op_of i.name → ill_formed i ≡ false → op ≡ o → known o ≡ false
    → r ≡ given op (inputs_of i input) (from_of op i)
none-such input i is formed q e = never (sym (name-known i _ is formed) ∙ ap known q ∙ e)

-- ---- what the decoders ask

pub read_args-requires : goal.read_args-requires
unfolding kind from_of one two three tab
read_args-requires c =
    let r = c.requires in
    ⊎_elim (λ (q : c.args.op ≡ Read). within c.args.input.now c.args.i r.op_value r.i_value r.i_value_2 q)
    (λ (q : c.args.op ≡ ReadSector). within c.args.input.now c.args.i r.op_value r.i_value r.i_value_2 q) c.in-Read.is

pub write_args-requires : goal.write_args-requires
unfolding kind from_of one two three tab
write_args-requires c = within c.args.input.now c.args.i c.requires.op_value c.requires.i_value c.requires.i_value_2 c.in-Write.is

pub span_args-requires : goal.span_args-requires
unfolding kind from_of one two three tab
span_args-requires c =
    let r = c.requires in
    ⊎_elim (λ (q : c.args.op ≡ Copy). within c.args.input.now c.args.i r.op_value r.i_value r.i_value_2 q)
    (λ (q : c.args.op ≡ Swap). within c.args.input.now c.args.i r.op_value r.i_value r.i_value_2 q) c.in-Copy.is

pub size_args-requires : goal.size_args-requires
unfolding kind from_of one two three tab
size_args-requires c = within c.args.input.now c.args.i c.requires.op_value c.requires.i_value c.requires.i_value_2 c.in-Truncate.is

-- ---- Read, ReadSector, Write, Copy, Swap, Truncate, and none of them

pub returns-in-Read : goal.returns-in-Read
unfolding kind from_of one two three tab
returns-in-Read c =
    let r = c.requires in
    let long = (known-instruction c.args.i _ c.well_formed.1.0).1 in
    c.read_args.ensures
    ∙ ⊎_elim (λ (q : c.args.op ≡ Read). arm c.args.input.now c.args.i long r.op_value r.i_value q (omega arith))
    (λ (q : c.args.op ≡ ReadSector). reads-alike _ ∙ arm c.args.input.now c.args.i long r.op_value r.i_value q (omega arith))
    c.in-Read.is

pub returns-in-Write : goal.returns-in-Write
unfolding kind from_of one two three tab
returns-in-Write c =
    c.write_args.ensures ∙ arm c.args.input.now c.args.i (known-instruction c.args.i _ c.well_formed.1.0).1 c.requires.op_value
    c.requires.i_value c.in-Write.is (omega arith)

pub returns-in-Copy : goal.returns-in-Copy
unfolding kind from_of one two three tab
returns-in-Copy c =
    let r = c.requires in
    let long = (known-instruction c.args.i _ c.well_formed.1.0).1 in
    c.span_args.ensures
    ∙ ⊎_elim (λ (q : c.args.op ≡ Copy). arm c.args.input.now c.args.i long r.op_value r.i_value q (omega arith))
    (λ (q : c.args.op ≡ Swap). swaps-alike _ ∙ arm c.args.input.now c.args.i long r.op_value r.i_value q (omega arith))
    c.in-Copy.is

pub returns-in-Truncate : goal.returns-in-Truncate
unfolding kind from_of one two three tab
returns-in-Truncate c =
    c.size_args.ensures ∙ arm c.args.input.now c.args.i (known-instruction c.args.i _ c.well_formed.1.0).1 c.requires.op_value
    c.requires.i_value c.in-Truncate.is (omega arith)

pub returns-in-Unknown : goal.returns-in-Unknown
unfolding kind
returns-in-Unknown c = none-such c.args.input.now c.args.i c.requires.op_value c.requires.i_value c.in-Unknown.is refl

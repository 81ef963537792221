-- `sia_write::instructions_length` meets its contract: a turn adds the length of one more. Assumes nothing.
use Rattle.std.proofs.Math.Seq.{take-length}
use Rattle.lists.proofs.Kit.{◌≡◌, refl, sym, ap, ◌∙◌, List, ℕ, ◌+◌, arith, length, take, leb-true}
use Rattle.lists.proofs.Laws.Every.{every-at}
use Rattle.sia.specs.declared.Instruction.{Instruction}
use Rattle.sia.specs.Encode.{joined, instruction_bytes, few_operands}
use Rattle.sia.proofs.Laws.Joined.{length_more}
use Rattle.sia_write.proofs.instructions_length.Goals as goal

pub loop-x-init : goal.loop-x-init
unfolding joined
loop-x-init c = (refl, omega arith)

pub instruction_length-total-requires : goal.instruction_length-total-requires
instruction_length-total-requires c = leb-true _ _ (every-at few_operands c.args.list.now c.loop-x.x-index _ c.requires.list_value refl)

pub loop-x-preserved : goal.loop-x-preserved
loop-x-preserved c =
    let l = c.loop-x in
    let list = c.args.list.now in
    let one = c.instruction_length-total.ensures in
    ((λ i. l.invariant.0 i + one.0 i) ∙ sym (length_more instruction_bytes list l.x-index _ c.loop-x-test.true), omega (arith, l.invariant.1, one.1))

pub returns : goal.returns
returns c =
    let l = c.loop-x in
    let list = c.args.list.now in
    let all : l.x-index ≡ length list = omega (arith, c.loop-x-test.false, l.auto.x-index-end) in (
      l.invariant.0 ∙ ap (λ (k : ℕ). length (joined instruction_bytes (take k list))) all
          ∙ ap (λ (xs : List Instruction). length (joined instruction_bytes xs)) (take-length list),
      omega (arith, l.invariant.1, all),
    )

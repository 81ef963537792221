-- `sia_read::head` meets its contract: contract id, instruction count, instructions and declared length. The fixed id is the id. Assumes nothing.
use Rattle.lists.proofs.Kit.{refl, sym, ap, List, ℕ, ◌++◌, drop, replicate, length-take-le}
use Rattle.sia.specs.declared.Instruction.{Instruction}
use Rattle.sia.specs.Empty.{no_instruction}
use Rattle.sia.specs.Decode.{instruction, head, value}
use Rattle.sia.proofs.Laws.Inverse.{limited-within}
use Rattle.sia_read.proofs.Laws.{goes, stops, fails}
use Rattle.sia_read.proofs.Several.{filled-front, fault-in-front}
use Rattle.sia_read.proofs.head.Goals as goal

pub slice_bounds-instructions-end : goal.slice_bounds-instructions-end
slice_bounds-instructions-end c = limited-within _ _ (sym c.in_ok-count.ensures)

pub slice_bounds-entries-end : goal.slice_bounds-entries-end
slice_bounds-entries-end c = sym (length-take-le _ _ (limited-within _ _ (sym c.in_ok-count.ensures)))

pub returns-in_err-bytes : goal.returns-in_err-bytes
unfolding head
returns-in_err-bytes c = fails _ _ _ c.from_residual.ensures (stops _ c.in_err-bytes.ensures)

pub returns-in_err-count : goal.returns-in_err-count
unfolding head
returns-in_err-count c =
    fails _ _ _ c.from_residual-in_err-count.ensures (goes _ c.in_ok-bytes.ensures (stops _ c.in_err-count.ensures))

pub returns-in_err-entries : goal.returns-in_err-entries
unfolding head
returns-in_err-entries c =
    let few = length-take-le _ _ (limited-within _ _ (sym c.in_ok-count.ensures)) in
    fails _ _ _ c.from_residual-in_err-entries.ensures
    (goes _ c.in_ok-bytes.ensures (goes _ c.in_ok-count.ensures (stops _ (fault-in-front instruction 32 no_instruction _ few c.in_err-entries.ensures))))

pub returns-in_err-length : goal.returns-in_err-length
unfolding head
returns-in_err-length c =
    let few = length-take-le _ _ (limited-within _ _ (sym c.in_ok-count.ensures)) in
    fails _ _ _ c.from_residual-in_err-length.ensures
    (goes _ c.in_ok-bytes.ensures (goes _ c.in_ok-count.ensures
    (goes _ (filled-front instruction 32 no_instruction _ few c.entries.auto.room c.in_ok-entries.ensures refl) (stops _ c.in_err-length.ensures))))

pub returns : goal.returns
unfolding head
returns c =
    let few = length-take-le _ _ (limited-within _ _ (sym c.in_ok-count.ensures)) in
    let n = c.in_ok-count.count in
    let empty = ap (λ (none : Instruction). c.entries.new.room ++ drop n (replicate 32 none)) c.empty-instructions.ensures in
    goes _ c.in_ok-bytes.ensures (goes _ c.in_ok-count.ensures
    (goes _ (filled-front instruction 32 no_instruction _ few c.entries.auto.room c.in_ok-entries.ensures empty) (goes _ c.in_ok-length.ensures
    (ap (λ (id : List ℕ). value (record {
      contract = id;
      count = n;
      instructions = c.entries.new.room ++ drop n (replicate 32 c.empty-instructions.result);
      length = c.in_ok-length.length;
    }) c.limited-2.new.rest.now) c.fixed_id-contract.ensures))))

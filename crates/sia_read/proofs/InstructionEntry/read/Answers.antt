-- An instruction is name, operand count, operands and flag. The fixed name is the name. Assumes nothing.
use Rattle.lists.proofs.Kit.{refl, sym, ap, List, ℕ, ◌++◌, drop, replicate, length-take-le}
use Rattle.sia.specs.declared.Operand.{Operand}
use Rattle.sia.specs.Empty.{no_operand}
use Rattle.sia.specs.Decode.{operand, instruction, value}
use Rattle.sia.proofs.Laws.Inverse.{limited-within}
use Rattle.sia_read.proofs.Laws.{goes, stops, fails}
use Rattle.sia_read.proofs.Several.{filled-front, fault-in-front}
use Rattle.sia_read.proofs.InstructionEntry.read.Goals as goal

pub slice_bounds-operands-end : goal.slice_bounds-operands-end
slice_bounds-operands-end c = limited-within _ _ (sym c.in_ok-count.ensures)

pub slice_bounds-entries-end : goal.slice_bounds-entries-end
slice_bounds-entries-end c = sym (length-take-le _ _ (limited-within _ _ (sym c.in_ok-count.ensures)))

pub returns-in_err-bytes : goal.returns-in_err-bytes
unfolding instruction
returns-in_err-bytes c = fails _ _ _ c.from_residual.ensures (stops _ c.in_err-bytes.ensures)

pub returns-in_err-count : goal.returns-in_err-count
unfolding instruction
returns-in_err-count c =
    fails _ _ _ c.from_residual-in_err-count.ensures (goes _ c.in_ok-bytes.ensures (stops _ c.in_err-count.ensures))

pub returns-in_err-entries : goal.returns-in_err-entries
unfolding instruction
returns-in_err-entries c =
    let few = length-take-le _ _ (limited-within _ _ (sym c.in_ok-count.ensures)) in
    fails _ _ _ c.from_residual-in_err-entries.ensures
    (goes _ c.in_ok-bytes.ensures (goes _ c.in_ok-count.ensures (stops _ (fault-in-front operand 4 no_operand _ few c.in_err-entries.ensures))))

pub returns-in_err-proof : goal.returns-in_err-proof
unfolding instruction
returns-in_err-proof c =
    let few = length-take-le _ _ (limited-within _ _ (sym c.in_ok-count.ensures)) in
    fails _ _ _ c.from_residual-in_err-proof.ensures
    (goes _ c.in_ok-bytes.ensures (goes _ c.in_ok-count.ensures
    (goes _ (filled-front operand 4 no_operand _ few c.entries.auto.room c.in_ok-entries.ensures refl) (stops _ c.in_err-proof.ensures))))

pub returns : goal.returns
unfolding instruction
returns c =
    let few = length-take-le _ _ (limited-within _ _ (sym c.in_ok-count.ensures)) in
    let n = c.in_ok-count.count in
    let empty = ap (λ (none : Operand). c.entries.new.room ++ drop n (replicate 4 none)) c.empty-operands.ensures in
    goes _ c.in_ok-bytes.ensures (goes _ c.in_ok-count.ensures
    (goes _ (filled-front operand 4 no_operand _ few c.entries.auto.room c.in_ok-entries.ensures empty) (goes _ c.in_ok-proof.ensures
    (ap (λ (name : List ℕ). value (record {
      name = name;
      count = n;
      operands = c.entries.new.room ++ drop n (replicate 4 c.empty-operands.result);
      proof = c.in_ok-proof.proof;
    }) c.flag.new.rest.now) c.fixed_name-name.ensures))))

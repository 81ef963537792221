-- `machine::commit::growth` meets its contract: sizes are small, so that nothing wraps. Assumes nothing.
use Rattle.lists.proofs.Kit.{◌<◌, ◌^◌, arith}
use mir.Syntax.{w64}
use mir.Facts.{to_z_pos, to_z-of_z}
use Rattle.machine.proofs.Laws.Growth.{difference, differs}
use Rattle.machine.proofs.commit.growth.Goals as goal

pub overflow_sub-result : goal.overflow_sub-result
overflow_sub-result c =
    let a : c.args.last < 2 ^ 63 = omega arith in
    let b : c.args.first < 2 ^ 63 = omega arith in
    search (differs, a, b)

pub returns : goal.returns
returns c =
    let a : c.args.last < 2 ^ 63 = omega arith in
    let b : c.args.first < 2 ^ 63 = omega arith in
    rw (to_z_pos w64 a, to_z_pos w64 b) (to_z-of_z (difference c.args.last c.args.first a b))

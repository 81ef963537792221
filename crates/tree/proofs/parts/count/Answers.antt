-- `parts::count` meets its contract: the sum of the three walks' hashes. Assumes nothing.
use Rattle.lists.proofs.Kit.{◌+◌, ◌/◌, arith, length}
use Rattle.tree.specs.Walk.{count}
use Rattle.tree.proofs.Laws.Counts.{hashes-few}
use Rattle.tree.proofs.Laws.Within.{in-long}
use Rattle.tree.proofs.parts.count.Goals as goal

pub overflow_add-result : goal.overflow_add-result
unfolding count
overflow_add-result c =
    let a = c.args in
    let m = length a.roots.now / 32 in
    let k = length a.part.now / 64 in
    omega (
      arith,
      c.count-left.ensures,
      c.count-own.ensures,
      hashes-few 64 0 m a.at m (omega arith) (omega arith),
      hashes-few 64 0 k a.range.first a.range.end (omega arith) (omega arith),
    )

pub overflow_add-result-2 : goal.overflow_add-result-2
unfolding count
overflow_add-result-2 c =
    let a = c.args in
    let m = length a.roots.now / 32 in
    let k = length a.part.now / 64 in
    omega (
      arith,
      c.count-left.ensures,
      c.count-own.ensures,
      c.count-right.ensures,
      hashes-few 64 0 m a.at m (omega arith) (omega arith),
      hashes-few 64 0 k a.range.first a.range.end (omega arith) (omega arith),
      hashes-few 64 0 m 0 (a.at + 1) (omega arith) (omega arith),
    )

pub returns : goal.returns
unfolding count
returns c =
    let a = c.args in
    let long = in-long a.roots.now a.at a.part.now a.range.first a.range.end c.requires (omega arith) (omega arith) in
    omega (arith, long, c.count-right.ensures, c.count-own.ensures, c.count-left.ensures)

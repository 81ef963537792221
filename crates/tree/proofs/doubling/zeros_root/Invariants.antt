-- The loop's invariant: as many levels up as there were turns, `root` is the root of that many doublings. Assumes nothing.
use Rattle.lists.proofs.Kit.{◌≡◌}
use Rattle.tree.specs.Zeros.{doubled}
use Rattle.tree.proofs.doubling.zeros_root.Given as goal

abbrev pub invariant-loop : goal.invariant-loop
invariant-loop l = l.root ≡ doubled l.counter

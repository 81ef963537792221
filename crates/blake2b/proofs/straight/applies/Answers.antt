-- `blake2b::straight::applies` meets its contract: three tests, from the left. Assumes nothing.
use Rattle.lists.proofs.Kit.{arith}
use Rattle.lists.specs.Pick.{pick}
use Rattle.std.proofs.lemmas.Grind.{common_steps}
use Rattle.blake2b.proofs.straight.applies.Goals as goal

pub returns-then-kk-eq0 : goal.returns-then-kk-eq0
unfolding pick
returns-then-kk-eq0 c = grind (arith, common_steps)

pub returns-else-kk-eq0 : goal.returns-else-kk-eq0
unfolding pick
returns-else-kk-eq0 c = grind (arith, common_steps)

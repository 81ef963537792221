-- `host::taken::staged_in` meets its contract. Assumes nothing.
use Rattle.lists.proofs.Kit.{eqb}
use Rattle.lists.proofs.Laws.Library.{any-some}
use Rattle.std.proofs.Common.{rules, tests}
use Rattle.std.proofs.lemmas.Iterator.{YieldsList-from_slice}
use Rattle.host.proofs.taken.staged_in.Goals as goal

pub returns : goal.returns
returns c = any-some (eqb c.args.x) _ _ _ c.any.ensures.ran (YieldsList-from_slice c.args.staged cc) (λ x b q k. search (rules, tests))

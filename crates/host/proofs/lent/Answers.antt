-- `host::lent` meets its contract. Assumes nothing.
use Rattle.std.proofs.Common.{rules}
use Rattle.host.specs.Order.{lent}
use Rattle.lists.proofs.Laws.Library.{both-and}
use Rattle.host.proofs.lent.Goals as goal

pub returns : goal.returns
unfolding lent
returns c = rw both-and (search rules)

-- `machine::piecing::passes` meets its contract: no sum is made. Assumes nothing.
use Rattle.lists.proofs.Laws.Sums.{rest-less}
use Rattle.machine.proofs.piecing.passes.Goals as goal

pub returns : goal.returns
returns c = rest-less _ _ _ c.requires

-- `machine::commit::cut` meets its contract: the smaller of two sizes. Assumes nothing.
use Rattle.lists.proofs.Kit.{ap}
use Rattle.host.specs.With.{with_size}
use Rattle.machine_rules.specs.Commit.{cut}
use Rattle.machine.proofs.commit.cut.Goals as goal

pub returns : goal.returns
unfolding cut with_size
returns c = ap (with_size c.args.place) c.min.ensures

-- `machine::commit::first` meets its contract: zeros are written over what lies behind. Assumes nothing.
use Rattle.lists.proofs.Kit.{arith}
use Rattle.machine.proofs.Laws.Filled.{filled-behind}
use Rattle.machine.proofs.commit.first.Goals as goal

pub returns : goal.returns
returns c = filled-behind c.args.slots c.args.n (omega (arith, c.well_formed.0.1.0.1)) c.requires (c.fill.ensures.after (λ y e. e))

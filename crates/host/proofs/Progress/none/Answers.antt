-- `host::Progress::none` meets its contract: all zeros. Assumes nothing.
use Rattle.lists.proofs.Kit.{refl}
use Rattle.host.specs.Empty.{no_progress}
use Rattle.host.proofs.Progress.none.Goals as goal

pub returns : goal.returns
unfolding no_progress
returns c = refl

-- `is_bare` meets its contract: there is an entry for the position. Assumes nothing.
use Rattle.lists.proofs.Kit.{ap, ℕ, arith, eqb}
use Rattle.lists.proofs.Laws.Entries.{any-default}
use Rattle.machine_effect.specs.Asks.{bare}
use Rattle.machine_effect.proofs.staging.Staging.is_bare.Goals as goal

pub returns : goal.returns
unfolding bare
returns c = ap (λ (n : ℕ). eqb n 255) (any-default c.args.self.now.staged c.args.at 0 255 (omega arith))

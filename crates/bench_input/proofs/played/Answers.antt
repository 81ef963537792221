-- `bench_input::played` meets its contract: fresh areas are zeros, and `play` says the rest. Assumes nothing.
use Rattle.bench_input.specs.Kept.{outcome}
use Rattle.bench_input.proofs.played.Goals as goal

pub returns : goal.returns
unfolding outcome
returns g c = c.play.ensures

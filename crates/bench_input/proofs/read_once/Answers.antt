-- `bench_input::read_once` meets its contract: a piece came, or none. Assumes nothing.
use Rattle.bench_input.proofs.Laws.Gathering.{feeds-none}
use Rattle.bench_input.proofs.read_once.Goals as goal

pub returns-then-got-eq0-clause-feeds : goal.returns-then-got-eq0-clause-feeds
returns-then-got-eq0-clause-feeds g c = feeds-none _

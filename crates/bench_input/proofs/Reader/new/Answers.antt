-- `bench_input::Reader::new` meets its contract. Assumes nothing.
use Rattle.lists.proofs.Kit.{refl}
use Rattle.bench_input.specs.Reader.{fresh}
use Rattle.bench_input.proofs.Reader.new.Goals as goal

pub returns : goal.returns
unfolding fresh
returns c = refl

-- `bench_input::Reader::data_from` meets its contract. Assumes nothing.
use Rattle.lists.proofs.Kit.{refl}
use Rattle.bench_input.specs.Reader.{data_from}
use Rattle.bench_input.proofs.Reader.data_from.Goals as goal

pub returns : goal.returns
unfolding data_from
returns c = refl

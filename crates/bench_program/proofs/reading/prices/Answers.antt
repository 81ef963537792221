-- `bench_program::reading::prices` meets its contract: each is the number at its place. Assumes nothing.
use Rattle.bench_program.specs.Input.{prices_in}
use Rattle.bench_program.proofs.reading.prices.Goals as goal

pub returns : goal.returns
unfolding prices_in
returns c =
    λ i. record {
      init = c.price.ensures i;
      memory = c.price-2.ensures i;
      readbase = c.price-3.ensures i;
      readlength = c.price-4.ensures i;
      writebase = c.price-5.ensures i;
      writelength = c.price-6.ensures i;
      truncatebase = c.price-7.ensures i;
    }

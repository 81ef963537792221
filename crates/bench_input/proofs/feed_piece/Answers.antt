-- `bench_input::feed_piece` meets its contract: what it is handed is the piece. Assumes nothing.
use Rattle.lists.proofs.Kit.{arith}
use Rattle.area.specs.Little.{Bytes}
use Rattle.bench_input.proofs.feed_piece.Goals as goal

pub returns : goal.returns
unfolding Bytes
returns c =
    record {
      piece = c.args.bytes.now;
      bytes = λ i. omega (arith, c.type_inv.bytes i);
      leads = c.feed.ensures;
    }

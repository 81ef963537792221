use Rattle.std.proofs.Common.{arith, sym, length-take-le}
use Rattle.blake2b_vectors.proofs.show_all.Goals as goal

pub slice_bounds-show-end : goal.slice_bounds-show-end
slice_bounds-show-end g c = sym (length-take-le 66 c.args.input.now (omega arith))

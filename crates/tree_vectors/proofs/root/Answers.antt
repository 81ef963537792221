-- `root` is safe: the first n segments are whole. Assumes nothing.
use Rattle.std.specs.Prelude.{is_ok}
use mathlib.Core.Path.{ap}
use lib.Seq.{length-take-le}
use native.Mathlib.Omega.{arith}
use Rattle.tree.proofs.Promise.{calls}
use Rattle.tree_vectors.proofs.root.Goals as goal

pub unwrap-requires : goal.unwrap-requires
unwrap-requires c = ap is_ok (calls.root_told c.root.result _ c.root.ensures.answer (omega (arith, length-take-le _ _ c.requires)))

-- `within_line` is safe: the roots of so many parts are whole. Assumes nothing.
use Rattle.std.specs.Prelude.{is_ok}
use Rattle.std.proofs.Common.{◌*◌, ◌≤◌, length}
use mathlib.Core.Path.{ap}
use lib.Seq.{length-take-le}
use native.Mathlib.Omega.{arith}
use Rattle.tree.proofs.Promise.{calls}
use Rattle.tree_vectors.proofs.within_line.Goals as goal

pub unwrap-requires : goal.unwrap-requires
unwrap-requires g c =
    let fits : 32 * c.args.within.parts ≤ length c.args.roots.now = omega (arith, c.if-roots-parts.false) in
    ap is_ok (calls.join-told c.join.result _ c.join.ensures.answer (omega (arith, length-take-le _ _ fits)))

-- `exports::candlebrood_root` meets its contract: an area of another length, whole segments, and bytes that are none. Assumes nothing.
use Rattle.lists.proofs.Kit.{arith}
use Rattle.exports.proofs.Read.{done, refused, other_length, no-segments, laid}
use Rattle.exports.proofs.candlebrood_root.Goals as goal

pub returns-then-out-ne32 : goal.returns-then-out-ne32
returns-then-out-ne32 c = other_length _ _ c.if-out-ne32.true

pub copy_between-requires-clause-n_in_bounds : goal.copy_between-requires-clause-n_in_bounds
copy_between-requires-clause-n_in_bounds c = omega (arith, (done _ c.root.ensures.answer c.in-Ok.is).2)

pub returns-in-Ok : goal.returns-in-Ok
returns-in-Ok c =
    let d = done _ c.root.ensures.answer c.in-Ok.is in
    laid _ _ _ _ c.if-out-ne32.false d.2 d.0 d.1 c.copy_between.ensures

pub returns-in-Err : goal.returns-in-Err
returns-in-Err c = no-segments _ _ (refused _ c.root.ensures.answer c.in-Err.is)

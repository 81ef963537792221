-- `parts::write` meets its contract: three walks are laid one behind another, as long together as the area has room for. Assumes nothing.
use Rattle.lists.proofs.Kit.{arith}
use Rattle.tree.proofs.Laws.Leaves.{roots-cover, segments-cover}
use Rattle.tree.proofs.Laws.Laid.{laid_kept}
use Rattle.tree.proofs.Laws.Answered.{from-top}
use Rattle.tree.proofs.Laws.Within.{in-long, in-laid}
use Rattle.tree.proofs.parts.write.Goals as goal

pub write-own-requires : goal.write-own-requires
write-own-requires c =
    let a = c.args in
    let long = in-long a.roots.now a.at a.part.now a.range.first a.range.end c.requires.within (omega arith) (omega arith) in
    record {
      walked = from-top _ (omega arith) (omega arith);
      all = roots-cover _ _ (omega arith);
      room = omega (arith, long, c.requires.end_in_bounds);
    }

pub write-right-requires : goal.write-right-requires
write-right-requires c =
    let a = c.args in
    let one = c.write-own.ensures in
    let long = in-long a.roots.now a.at a.part.now a.range.first a.range.end c.requires.within (omega arith) (omega arith) in
    let kept = laid_kept _ _ _ _ _ _ _ _ _ one in
    record {
      walked = from-top _ (omega arith) (omega arith);
      all = segments-cover _ _ (omega arith);
      room = omega (arith, long, c.requires.end_in_bounds, one.0, kept);
    }

pub write-requires : goal.write-requires
write-requires c =
    let a = c.args in
    let one = c.write-own.ensures in
    let two = c.write-right.ensures in
    let long = in-long a.roots.now a.at a.part.now a.range.first a.range.end c.requires.within (omega arith) (omega arith) in
    let kept = laid_kept _ _ _ _ _ _ _ _ _ one in
    let kept-2 = laid_kept _ _ _ _ _ _ _ _ _ two in
    record {
      walked = from-top _ (omega arith) (omega arith);
      all = roots-cover _ _ (omega arith);
      room = omega (arith, long, c.requires.end_in_bounds, one.0, two.0, kept, kept-2);
    }

pub returns : goal.returns
returns c =
    let one = c.write-own.ensures in
    let two = c.write-right.ensures in
    in-laid _ _ _ _ _ c.requires.within (omega arith) (omega arith) _ one.0 one.1 two.0 two.1 c.write.ensures.1

-- Assumes nothing.
use Rattle.lists.proofs.Kit.{sym, arith}
use Rattle.area.specs.Area.{zeros}
use Rattle.area.proofs.Laws.Puts.{put-nil}
use Rattle.blake2b.specs.Blake2b.{bytes}
use Rattle.blake2b.proofs.Laws.Data.{bytes-more, bytes-all}
use Rattle.blake2b.proofs.data.write.Goals as goal

pub loop-i-init : goal.loop-i-init
unfolding bytes
loop-i-init c = sym (put-nil (zeros 64) 0)

pub loop-i-preserved : goal.loop-i-preserved
loop-i-preserved c = let l = c.loop-i in bytes-more (zeros 64) c.args.h.now l.i c.told-h (omega arith) l.invariant c.store.ensures

pub returns : goal.returns
returns c = let l = c.loop-i in bytes-all c.args.h.now _ l.i c.told-h (omega arith) (omega arith) l.invariant c.copy_between.ensures

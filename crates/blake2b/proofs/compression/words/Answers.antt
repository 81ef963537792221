-- Assumes nothing.
use Rattle.lists.proofs.Kit.{refl, arith, rules}
use Rattle.lists.proofs.Laws.Tab.{fill_none, fill_one, fill-all}
use Rattle.area.specs.Area.{zeros}
use Rattle.blake2b.specs.Compression.{words}
use Rattle.blake2b.proofs.compression.words.Goals as goal

pub loop-i-init : goal.loop-i-init
unfolding words
loop-i-init c = (refl, fill_none (zeros 16) _)

pub loop-i-preserved : goal.loop-i-preserved
unfolding words
loop-i-preserved c =
    let l = c.loop-i in
    (search rules, fill_one _ _ l.i _ l.invariant.0 (omega arith) c.load.ensures l.invariant.1)

pub returns : goal.returns
unfolding words
returns c = let l = c.loop-i in fill-all _ _ l.i _ l.invariant.0 (omega arith) (omega arith) l.invariant.1

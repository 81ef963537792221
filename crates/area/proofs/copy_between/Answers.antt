-- `area::copy_between` meets its contract. The loop's invariant: the first i of the n bytes are laid. A turn lays one more.
-- Assumes nothing.
use Rattle.lists.proofs.Kit.{refl, sym, arith, rules}
use Rattle.area.proofs.Laws.Parts.{length_part, get_d_part}
use Rattle.area.proofs.Laws.Puts.{put-nil}
use Rattle.area.proofs.Laws.Loops.{one_more, all_laid}
use Rattle.area.proofs.copy_between.Goals as goal

pub loop-i-preserved : goal.loop-i-preserved
loop-i-preserved c = (
  omega arith,
  search rules,
  one_more _ _ _ _ (length_part _ _ _ (omega arith)) (omega arith) (sym (get_d_part _ _ _ _ (omega arith))) c.before.before.loop-i.invariant.2,
)

pub returns : goal.returns
returns c = all_laid _ _ _ _ (length_part _ _ _ (omega arith)) c.loop-i-test.false c.before.loop-i.invariant.2

pub loop-i-init : goal.loop-i-init
loop-i-init c = (omega arith, refl, sym (put-nil _ _))

-- `area::move_up` meets its contract. The loop's invariant: all but the first i of the n bytes are laid. The byte that a turn reads
-- lies in front of all of those, so it is the one of the start. Assumes nothing.
use Rattle.lists.proofs.Kit.{refl, sym, ap, ◌∙◌, ℕ, ◌+◌, ◌-◌, arith, rules, List, get_or}
use Rattle.area.proofs.Laws.Parts.{length_part, get_d_part}
use Rattle.area.proofs.Laws.Puts.{get_or-before}
use Rattle.area.proofs.Laws.Loops.{none-laid-up, one-more-up, all-laid-up}
use Rattle.area.proofs.move_up.Goals as goal

pub loop-i-preserved : goal.loop-i-preserved
loop-i-preserved c =
    let l = c.before.before.loop-i in
    let a = c.before.before.before.args in
    let read = ap (λ (x : List ℕ). get_or x (a.from + (l.i - 1)) 0) l.invariant.2 ∙ get_or-before _ _ _ _ (omega arith) in (
      omega arith,
      search rules,
      one-more-up _ _ _ l.i _ (length_part _ _ _ (omega arith)) (omega arith) (omega arith) (read ∙ sym (get_d_part _ _ _ _ (omega arith))) l.invariant.2,
    )

pub loop-i-init : goal.loop-i-init
loop-i-init c = (omega arith, refl, none-laid-up _ _ _ (length_part _ _ _ (omega arith)))

pub returns : goal.returns
returns c = all-laid-up _ _ _ _ c.loop-i-test.false c.before.loop-i.invariant.2

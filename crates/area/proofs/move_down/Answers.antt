-- `area::move_down` meets its contract. The loop's invariant: the first i of the n bytes are laid. The byte that a turn reads lies
-- behind all of those, so it is the one of the start. Assumes nothing.
use Rattle.lists.proofs.Kit.{◌≡◌, refl, sym, ap, ◌∙◌, ℕ, ◌+◌, arith, rules, List, length, get_or, length-take-le}
use Rattle.area.specs.Area.{part}
use Rattle.area.proofs.Laws.Parts.{length_part, get_d_part}
use Rattle.area.proofs.Laws.Puts.{put-nil, get_or-behind}
use Rattle.area.proofs.Laws.Loops.{one_more, all_laid}
use Rattle.area.proofs.move_down.Goals as goal

pub loop-i-preserved : goal.loop-i-preserved
loop-i-preserved c =
    let l = c.before.before.loop-i in
    let a = c.before.before.before.args in
    let n : length (part a.a.now a.from a.n) ≡ a.n = length_part _ _ _ (omega arith) in
    let read = ap (λ (x : List ℕ). get_or x (a.from + l.i) 0) l.invariant.2
    ∙ get_or-behind _ _ _ _ (omega (arith, length-take-le l.i (part a.a.now a.from a.n) (omega arith))) in
    (omega arith, search rules, one_more _ _ _ _ n (omega arith) (read ∙ sym (get_d_part _ _ _ _ (omega arith))) l.invariant.2)

pub returns : goal.returns
returns c = all_laid _ _ _ _ (length_part _ _ _ (omega arith)) c.loop-i-test.false c.before.loop-i.invariant.2

pub loop-i-init : goal.loop-i-init
loop-i-init c = (omega arith, refl, sym (put-nil _ _))

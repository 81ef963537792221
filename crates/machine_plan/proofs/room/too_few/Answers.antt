-- `machine_plan::room::too_few` meets its contract: no number of free slots is below 0. Assumes nothing.
use Rattle.lists.proofs.Kit.{sym, ap, ap₂, ◌∙◌, not, arith, ltb, le-ltb, eq-eqb}
use Rattle.lists.specs.Tests.{count, unused}
use Rattle.machine_plan.proofs.room.too_few.Goals as goal

pub returns-then-want-ne0 : goal.returns-then-want-ne0
returns-then-want-ne0 c = ap₂ ltb c.free_copies.ensures c.wanted-want.ensures

pub returns-else-want-ne0 : goal.returns-else-want-ne0
returns-else-want-ne0 c =
    let a = c.args in
    let free = count (unused a.p.staged) 0 a.copies in
    ap not (eq-eqb _ _ c.if-want-ne0.false)
    ∙ sym (ap (ltb free) (sym c.wanted-want.ensures ∙ c.if-want-ne0.false) ∙ le-ltb free 0 (omega arith))

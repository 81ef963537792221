-- `machine::commit::count` meets its contract: as many slots as sectors, as far as there are entries. Assumes nothing.
use Rattle.lists.proofs.Kit.{sym, ◌∙◌, arith}
use Rattle.host.proofs.Laws.Lengths.{placed}
use Rattle.machine.proofs.Laws.Filled.{count-free, count_held}
use Rattle.machine.proofs.commit.count.Goals as goal

pub returns-then-place : goal.returns-then-place
returns-then-place c =
    let n = count_held c.args.z c.args.place c.if-place.true (placed c.args.place _ c.well_formed.1.0) in
    (c.sectors.ensures.0 ∙ sym n, c.sectors.ensures.1)

pub returns-else-place : goal.returns-else-place
returns-else-place c = (sym (count-free c.args.z c.args.place c.if-place.false), omega arith)

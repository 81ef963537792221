-- `machine_step::records::count_of` meets its contract. Assumes nothing.
use Rattle.lists.proofs.Kit.{refl}
use Rattle.lists.proofs.Laws.Pick.{yes, no}
use Rattle.machine_step.proofs.records.count_of.Goals as goal

pub returns-then-reads : goal.returns-then-reads
returns-then-reads c = yes _ _ _ c.if-reads.true refl

pub returns-else-reads : goal.returns-else-reads
returns-else-reads c = no _ _ _ c.if-reads.false refl

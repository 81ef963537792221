-- `machine_effect::resizing::new_zeros` meets its contract: the lowest free slot lies within the stage. Assumes nothing.
use Rattle.lists.proofs.Kit.{arith}
use Rattle.machine_effect.proofs.Laws.Slots.{new-slot}
use Rattle.machine_effect.proofs.Laws.Copies.{laid-zeros}
use Rattle.machine_effect.proofs.resizing.new_zeros.Goals as goal

pub overflow_mul-slot : goal.overflow_mul-slot
overflow_mul-slot c = omega (arith, (new-slot _ _ _ _ c.requires.lent c.requires.free c.free_copy-slot.ensures).room)

pub fill-requires : goal.fill-requires
fill-requires c = (new-slot _ _ _ _ c.requires.lent c.requires.free c.free_copy-slot.ensures).room

pub overflow_cast-staging : goal.overflow_cast-staging
overflow_cast-staging c = omega (arith, (new-slot _ _ _ _ c.requires.lent c.requires.free c.free_copy-slot.ensures).small)

pub returns-clause-grown : goal.returns-clause-grown
returns-clause-grown c = laid-zeros _ _ _ _ c.free_copy-slot.ensures c.fill.ensures

-- `copy_in` meets its contract: the position has a copy, or gets the disk's sector in the lowest free slot. Assumes nothing.
use Rattle.lists.proofs.Kit.{sym, ◌∙◌, arith}
use Rattle.machine_effect.proofs.Laws.Slots.{new-slot}
use Rattle.machine_effect.proofs.Laws.Copies.{copied-old, laid-copy}
use Rattle.machine_effect.proofs.staging.Staging.copy_in.Goals as goal

pub overflow_mul-slot : goal.overflow_mul-slot
overflow_mul-slot c =
    let free = c.requires.room.free (sym c.is_bare.ensures ∙ c.if-is_bare.true) in
    omega (arith, (new-slot _ _ _ _ c.requires.lent free c.free_copy-slot.ensures).room)

pub copy_between-requires-clause-n_in_bounds_2 : goal.copy_between-requires-clause-n_in_bounds_2
copy_between-requires-clause-n_in_bounds_2 c =
    let free = c.requires.room.free (sym c.is_bare.ensures ∙ c.if-is_bare.true) in
    (new-slot _ _ _ _ c.requires.lent free c.free_copy-slot.ensures).room

pub overflow_cast-self : goal.overflow_cast-self
overflow_cast-self c =
    let free = c.requires.room.free (sym c.is_bare.ensures ∙ c.if-is_bare.true) in
    omega (arith, (new-slot _ _ _ _ c.requires.lent free c.free_copy-slot.ensures).small)

pub returns-then-is_bare-clause-copied : goal.returns-then-is_bare-clause-copied
returns-then-is_bare-clause-copied c =
    laid-copy _ _ _ _ (sym c.is_bare.ensures ∙ c.if-is_bare.true) c.free_copy-slot.ensures c.copy_between.ensures

pub returns-else-is_bare-clause-copied : goal.returns-else-is_bare-clause-copied
returns-else-is_bare-clause-copied c = sym (copied-old _ _ _ _ (sym c.is_bare.ensures ∙ c.if-is_bare.false))

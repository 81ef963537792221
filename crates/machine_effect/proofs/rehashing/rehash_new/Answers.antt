-- `machine_effect::rehashing::rehash_new` meets its contract: a size that does not grow has no new position. Assumes nothing.
use Rattle.lists.proofs.Kit.{refl, arith, ◌/◌, lt-ltb, le-ltb}
use Rattle.lists.proofs.Laws.Pick.{yes, no}
use Rattle.lists.proofs.Laws.Entries.{any-default}
use Rattle.machine_effect.proofs.Laws.KeptRoots.{root-laid}
use Rattle.machine_effect.proofs.rehashing.rehash_new.Goals as goal

pub returns-then-size-new : goal.returns-then-size-new
returns-then-size-new c =
    let slot = any-default c.args.staged (c.args.size / c.args.z) 0 255 (omega (arith, (c.requires.near c.if-size-new.true).entry)) in
    yes _ _ _ (lt-ltb _ _ c.if-size-new.true) (root-laid _ _ _ slot c.zeros_root-zeros.ensures c.copy_between.ensures)

pub returns-else-size-new : goal.returns-else-size-new
returns-else-size-new c = no _ _ _ (le-ltb _ _ c.if-size-new.false) refl

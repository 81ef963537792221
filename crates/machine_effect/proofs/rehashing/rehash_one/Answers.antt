-- `machine_effect::rehashing::rehash_one` meets its contract: a sector is whole segments, and a root is 32 bytes. Assumes nothing.
use Rattle.lists.proofs.Kit.{arith}
use Rattle.lists.proofs.Laws.Entries.{any-default}
use Rattle.machine_effect.proofs.Laws.KeptRoots.{slot-ok, slot-root, one-laid}
use Rattle.machine_effect.proofs.Laws.Asked.{slot-lies}
use Rattle.machine_effect.proofs.rehashing.rehash_one.Goals as goal

pub unwrap-root-requires : goal.unwrap-root-requires
unwrap-root-requires c =
    let slot = any-default c.args.staged c.args.at 0 255 (omega (arith, c.requires.beside.near.entry)) in
    slot-ok c.root.result _ _ _ c.requires.size (slot-lies _ _ _ _ slot c.requires.beside) c.root.ensures.answer

pub returns : goal.returns
returns c =
    let slot = any-default c.args.staged c.args.at 0 255 (omega (arith, c.requires.beside.near.entry)) in
    one-laid c.args.z _ c.args.at _ slot
    (slot-root c.root.result _ _ _ c.requires.size (slot-lies _ _ _ _ slot c.requires.beside) c.root.ensures.answer c.unwrap-root.ensures)
    c.copy_between.ensures

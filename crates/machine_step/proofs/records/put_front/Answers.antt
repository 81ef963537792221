-- `machine_step::records::put_front` meets its contract: five parts, one behind the other. Assumes nothing.
use Rattle.lists.proofs.Kit.{◌≡◌, refl, sym, length}
use Rattle.area.proofs.Laws.Parts.{part-whole}
use Rattle.area.proofs.Laws.Little.{length-bytes}
use Rattle.sia.proofs.Laws.Joined.{lay-same, lay-two}
use Rattle.machine_step.specs.Front.{front}
use Rattle.machine_step.proofs.records.put_front.Goals as goal

pub returns : goal.returns
unfolding front
returns c =
    let long : length c.args.root ≡ 32 = c.well_formed.1.1.1.0.1.0.1 in
    lay-two _ 0 _ _ 8 c.store.ensures
    (lay-two _ 8 _ _ 16 c.store-2.ensures
    (lay-two _ 16 _ _ 24 c.store-3.ensures
    (lay-two _ 24 _ _ 56 (lay-same _ _ _ c.copy_between.ensures (part-whole _ 32 (sym long))) c.store-4.ensures long refl)
    (length-bytes 8 _) refl)
    (length-bytes 8 _) refl)
    (length-bytes 8 _) refl

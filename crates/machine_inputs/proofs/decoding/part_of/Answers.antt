-- `machine_inputs::decoding::part_of` meets its contract. Assumes nothing.
use Rattle.lists.proofs.Kit.{refl}
use Rattle.area.proofs.Laws.Parts.{part-is}
use Rattle.machine_inputs.proofs.decoding.part_of.Goals as goal

pub returns : goal.returns
returns c = part-is _ _ _ _ refl

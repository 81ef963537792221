-- std's number of the 8 bytes is the value of the part. Assumes nothing.
use Rattle.lists.proofs.Kit.{refl, ap, ◌∙◌}
use Rattle.std.specs.Int.{w64, from_le_bytes}
use Rattle.area.specs.Area.{part}
use Rattle.area.proofs.Laws.Parts.{length_part, part-is}
use Rattle.area.proofs.Laws.Little.{value_le8}
use Rattle.area.proofs.load.Goals as goal

pub returns : goal.returns
returns c =
    let a = c.args in
    c.from_le_bytes.ensures ∙ ap (from_le_bytes w64) (c.copy_from_slice.ensures.after ∙ part-is a.b.now a.at 8 _ refl)
    ∙ value_le8 (part a.b.now a.at 8) (length_part _ _ _ c.requires)

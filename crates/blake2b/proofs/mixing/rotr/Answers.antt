-- Assumes nothing.
use Rattle.lists.proofs.Kit.{◌∙◌}
use Rattle.blake2b.proofs.Laws.Rotations.{rotates}
use Rattle.blake2b.proofs.mixing.rotr.Goals as goal

pub returns : goal.returns
returns c = c.rotate_right.ensures ∙ rotates _ _ c.requires.0 c.requires.1 c.ranges.x.fits

-- `blake2b::data::padded` meets its contract: the bytes are laid over a block of zeros. Assumes nothing.
use Rattle.lists.proofs.Kit.{refl, ap, ◌∙◌, arith}
use Rattle.area.specs.Area.{put, zeros}
use Rattle.area.proofs.Laws.Parts.{part-whole}
use Rattle.blake2b.proofs.Laws.Data.{padded-put}
use Rattle.blake2b.proofs.data.padded.Goals as goal

pub returns : goal.returns
returns c = c.before.copy_between.ensures ∙ ap (put (zeros 128) 0) (part-whole _ _ refl) ∙ padded-put _ (omega arith)

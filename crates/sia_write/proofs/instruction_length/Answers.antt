-- `sia_write::instruction_length` meets its contract. Assumes nothing.
use Rattle.lists.proofs.Kit.{sym, arith}
use Rattle.sia.proofs.Laws.Known.{known-instruction}
use Rattle.sia.proofs.Laws.Joined.{length-instruction}
use Rattle.sia_write.proofs.instruction_length.Goals as goal

pub returns : goal.returns
returns c = let long = known-instruction c.args.x _ c.well_formed.0 in (sym (length-instruction c.args.x long.0 long.1 c.requires), omega arith)

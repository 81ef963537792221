-- `sia_read::number` meets its contract: 8 bytes, and the number that they are. Assumes nothing.
use Rattle.lists.proofs.Kit.{ap, ◌∙◌, ℕ}
use Rattle.area.proofs.Laws.Little.{value_le8}
use Rattle.sia.specs.Decode.{number, value}
use Rattle.sia_read.proofs.Laws.{goes, stops, fails, long}
use Rattle.sia_read.proofs.number.Goals as goal

pub returns-in_err-bytes : goal.returns-in_err-bytes
unfolding number
returns-in_err-bytes c = fails _ _ _ c.from_residual.ensures (stops _ c.in_err-bytes.ensures)

pub returns : goal.returns
unfolding number
returns c =
    let read = c.in_ok-bytes.ensures in
    goes _ read (ap (λ (n : ℕ). value n c.bytes.new.rest.now) (c.from_le_bytes.ensures ∙ value_le8 _ (long 8 _ read)))

-- What the writer answers, in the definition's words. Assumes nothing.
use Rattle.std.specs.Prelude.{Result, Ok, Err, ℕ}
use Rattle.sia.specs.Encode.{Written}
use Rattle.sia_write.specs.declared.Refusal.{Refusal}
use Rattle.sia_write.specs.declared.Refusal.TheVariants.{AboveLimit, NoRoom}

-- "from any head within limits, else answers 10; after that, 2 for an area that is too short"
abbrev pub number_of : Refusal → ℕ
number_of AboveLimit = 10
number_of NoRoom = 2

-- 0 and the length of what was written, or the number of a refusal and 0
abbrev pub written_of : Result ℕ Refusal → Written
written_of (Ok n) = record { number = 0; length = n }
written_of (Err e) = record { number = number_of e; length = 0 }

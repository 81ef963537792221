-- What readers answer, in the definitions' words. Assumes nothing.
use Rattle.std.specs.Prelude.{Result, Ok, Err, List, ℕ}
use Rattle.sia.specs.Empty.{no_head}
use Rattle.sia.specs.Decode.{Reading, value, fault, Told, told}
use Rattle.sia.specs.declared.Head.{Head}
use Rattle.sia_read.specs.declared.Fault.{Fault}
use Rattle.sia_read.specs.declared.Fault.TheVariants.{Malformed, AboveLimit}

-- "bytes missing, a flag above 1 or bytes left over give 9; a count or the declared length above its limit gives 10"
abbrev pub number_of : Fault → ℕ
number_of Malformed = 9
number_of AboveLimit = 10

-- the reading of a section that its reader answered, with the bytes behind it; a fault has none
abbrev pub reading : {A : Type 0} → Result A Fault → List ℕ → Reading A
reading (Ok x) rest = value x rest
reading (Err e) rest = fault (number_of e)

-- the reading of entries that their reader laid over a list
abbrev pub listed : {A : Type 0} → Result (Unit {0}) Fault → List A → List ℕ → Reading (List A)
listed (Ok _) xs rest = value xs rest
listed (Err e) xs rest = fault (number_of e)

-- the answer for a whole head: 0 and the head, or the number of a fault and the empty head
abbrev pub told_of : Result Head Fault → Told
told_of (Ok h) = told 0 h
told_of (Err e) = told (number_of e) no_head

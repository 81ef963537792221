-- Document 01's number of each refusal. Assumes nothing.
use Rattle.std.specs.Prelude.{ℕ, Option, Some, None, Result, Ok, Err}
use Rattle.host.specs.declared.refusal.Refusal.{Refusal}
use Rattle.host.specs.declared.refusal.Refusal.TheVariants.{NotInOrder, WrongLength, Open, NoneOpen, ReadOnly, Present, NotFound, NoPlace}
use Rattle.host.specs.declared.refusal.Refusal.TheVariants.{Malformed, AboveLimit, AboveBudget, TooMuchData, Unfinished, Disagreed, Padded}

abbrev pub number_of : Refusal → ℕ
number_of NotInOrder = 1
number_of WrongLength = 2
number_of Open = 3
number_of NoneOpen = 4
number_of ReadOnly = 5
number_of Present = 6
number_of NotFound = 7
number_of NoPlace = 8
number_of Malformed = 9
number_of AboveLimit = 10
number_of AboveBudget = 11
number_of TooMuchData = 12
number_of Unfinished = 13
number_of Disagreed = 14
number_of Padded = 15

-- the number of an answer: 0 done
abbrev pub told : {X : Type 0} → Result X Refusal → ℕ
told (Ok _) = 0
told (Err why) = number_of why

-- of a refusal, if there is one
abbrev pub number_in : Option Refusal → ℕ
number_in None = 0
number_in (Some why) = number_of why

-- No refusal's number is 0. Assumes nothing.
use Rattle.lists.proofs.Kit.{◌≡◌, ◌<◌, arith}
use Rattle.host.specs.Refusals.{number_of}
use Rattle.host.specs.declared.refusal.Refusal.{Refusal}
use Rattle.host.specs.declared.refusal.Refusal.TheVariants.{NotInOrder, WrongLength, Open, NoneOpen, ReadOnly, Present, NotFound, NoPlace}
use Rattle.host.specs.declared.refusal.Refusal.TheVariants.{Malformed, AboveLimit, AboveBudget, TooMuchData, Unfinished, Disagreed, Padded}

pub number-some : (why : Refusal) → 0 < number_of why
number-some NotInOrder = omega arith
number-some WrongLength = omega arith
number-some Open = omega arith
number-some NoneOpen = omega arith
number-some ReadOnly = omega arith
number-some Present = omega arith
number-some NotFound = omega arith
number-some NoPlace = omega arith
number-some Malformed = omega arith
number-some AboveLimit = omega arith
number-some AboveBudget = omega arith
number-some TooMuchData = omega arith
number-some Unfinished = omega arith
number-some Disagreed = omega arith
number-some Padded = omega arith

pub number-not : (why : Refusal) → number_of why ≡ 0 → ⊥
number-not why e = omega (arith, number-some why, e)

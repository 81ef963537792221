-- What inner functions ask of their callers, and each call's answer as its definition has it, by its number: 0 done. A refusal leaves all as it
-- was, and its other numbers are 0. Assumes nothing.
use Rattle.std.specs.Prelude.{◌≡◌, Bool, true, false, List, ℕ, ◌+◌, ◌≤◌, length, Option, Some, None, Result, Ok, Err}
use Rattle.host.specs.Order.{in_order}
use Rattle.machine_rules.specs.Run.{going}
use Rattle.host.specs.Refusals.{number_of}
use Rattle.machine_rules.specs.Calls.{Answer, answered, input_right, output_right, Pieced, pieced, Interrupted, interrupted}
use Rattle.machine_rules.specs.Calls.{Reached, reached_at, no_pair}
use Rattle.machine_rules.specs.Sound.{Sounded, sounded_at}
use Rattle.machine_rules.specs.Seats.{Located, not_located}
use Rattle.host.specs.declared.refusal.Refusal.{Refusal}
use Rattle.host.specs.declared.Host.{Host}
use Rattle.machine_rules.specs.declared.Pair.{Pair}
use Rattle.machine.specs.declared.answers.Done.{Done}
use Rattle.machine.specs.declared.answers.Location.{Location}
use Rattle.machine_step.specs.Turns.{Ready}

-- a host in order with an open program that is going, and the output area as stated
pub record Stops (h : Host) (out : List ℕ) : Type 0 where
  pub order : in_order h ≡ true
  pub live : h.program.active ≡ true
  pub output : output_right h out ≡ true
  pub going : going h.program.terms h.program.progress ≡ true

-- a host in order with an open program, areas as stated, and a piece that does not pass the declared length
pub record Takes (disk : List ℕ) (h : Host) (stage input output bytes : List ℕ) : Type 0 where
  pub ready : Ready disk h stage
  pub inputs : input_right h input ≡ true
  pub outputs : output_right h output ≡ true
  pub fits : h.program.came + length bytes ≤ h.program.terms.head.length

-- opening, on a host
abbrev pub answer_of : Host → Result Done Refusal → Answer
answer_of h (Ok r) = answered 0 r.tally r.host
answer_of h (Err why) = answered (number_of why) 0 h

-- a piece, with the areas as they are left
abbrev pub piece_leaves : Host → Result Done Refusal → List ℕ → List ℕ → List ℕ → Pieced
piece_leaves h (Ok r) stage input output = pieced 0 r.tally r.host stage input output
piece_leaves h (Err why) stage input output = pieced (number_of why) 0 h stage input output

-- an interrupt, with the output area as it is left
abbrev pub interrupt_leaves : Host → Result Done Refusal → List ℕ → Interrupted
interrupt_leaves h (Ok r) output = interrupted 0 r.tally r.host output
interrupt_leaves h (Err why) output = interrupted (number_of why) 0 h output

-- what a program has reached
abbrev pub reached_of : Result Pair Refusal → Reached
reached_of (Ok pair) = reached_at 0 pair
reached_of (Err why) = reached_at (number_of why) no_pair

-- whether a host is sound
abbrev pub sounded_of : Result Bool Refusal → Sounded
sounded_of (Ok good) = sounded_at 0 good
sounded_of (Err why) = sounded_at (number_of why) false

-- where a sector is
abbrev pub located_of : Result (Option Location) Refusal → Located
located_of (Ok (Some at)) = record { number = 0; found = true; place = at.place; position = at.position; staged = at.staged }
located_of (Ok None) = not_located 0
located_of (Err why) = not_located (number_of why)

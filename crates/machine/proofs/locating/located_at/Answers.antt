-- `located_at` meets its contract: the seat's numbers, or nothing. Assumes nothing.
use Rattle.lists.proofs.Kit.{sym, ap, ◌∙◌, Bool, true}
use Rattle.machine_rules.specs.Seats.{Located, located_at}
use Rattle.machine.proofs.locating.located_at.Goals as goal

pub returns : goal.returns
unfolding located_at
returns c =
    let x = c.in-Some.seat in
    let answer : Bool → Located = λ b. record { number = 0; found = true; place = x.place; position = x.position; staged = b } in
    ap answer c.is_staged.ensures ∙ sym (ap located_at c.in-Some.is)

pub returns-in_default : goal.returns-in_default
unfolding located_at
returns-in_default c = sym (ap located_at c.in_default.is)

-- `machine_sight::lookup::find_for` meets its contract: by the mode of the program. Assumes nothing.
use Rattle.lists.proofs.Kit.{sym, ap, ◌∙◌}
use Rattle.lists.proofs.Laws.Pick.{picks, skips}
use Rattle.machine_rules.specs.Seats.{first_seat}
use Rattle.machine_sight.proofs.lookup.find_for.Goals as goal

pub returns-then-is_read_only : goal.returns-then-is_read_only
returns-then-is_read_only c =
    let mode = sym c.is_read_only.ensures ∙ c.if-is_read_only.true in
    c.find_in_all.ensures ∙ sym (ap (first_seat _ _) (picks _ _ _ mode))

pub returns : goal.returns
returns c =
    let mode = sym c.is_read_only.ensures ∙ c.if-is_read_only.false in
    c.find_root.ensures ∙ sym (ap (first_seat _ _) (skips _ _ _ mode))

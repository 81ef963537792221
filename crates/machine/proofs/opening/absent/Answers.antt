-- `machine::opening::absent` meets its contract: no contract is absent in read-only mode. Assumes nothing.
use Rattle.lists.proofs.Kit.{refl, sym, ap, ◌∙◌, not}
use Rattle.lists.proofs.Laws.Pick.{yes, no}
use Rattle.host.specs.declared.Place.{Place}
use Rattle.machine.proofs.opening.absent.Goals as goal

pub returns : goal.returns
returns c = yes _ _ _ (ap not (sym c.is_read_only.ensures ∙ c.if-is_read_only.false))
    (ap (λ (p : Place). not p.held) c.place_of-parent.ensures)

pub returns-then-is_read_only : goal.returns-then-is_read_only
returns-then-is_read_only c = no _ _ _ (ap not (sym c.is_read_only.ensures ∙ c.if-is_read_only.true)) refl

-- `machine_sight::lookup::has_root` meets its contract. Assumes nothing.
use Rattle.lists.proofs.Kit.{ap₂, ◌∙◌}
use Rattle.area.specs.Area.{same}
use Rattle.area.proofs.Laws.Same.{pointwise-same}
use Rattle.machine_sight.proofs.lookup.has_root.Goals as goal

pub returns : goal.returns
returns c =
    c.eq.ensures ∙ pointwise-same _ _
    ∙ ap₂ same c.kept_root-root.ensures.0 c.as_slice.ensures

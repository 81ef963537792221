-- `host::taken::slots_taken` meets its contract. Assumes nothing.
use Rattle.lists.proofs.Kit.{ap₂, ◌∙◌, List, ◌++◌, ℕ, arith}
use Rattle.host.proofs.Laws.Places.{blank}
use Rattle.host.proofs.Laws.Slots.{taken_none, taken-one}
use Rattle.host.proofs.taken.slots_taken.Goals as goal

pub loop-p-init : goal.loop-p-init
loop-p-init c = (omega arith, c.new-taken.ensures.0 ∙ taken_none _)

pub loop-p-preserved : goal.loop-p-preserved
loop-p-preserved c =
    let l = c.loop-p in (
      omega (arith, l.invariant.0, c.extend.ensures.1, c.committed.ensures.1),
      c.extend.ensures.0
          ∙ ap₂ (λ (x y : List ℕ). x ++ y) l.invariant.1 c.committed.ensures.0
          ∙ taken-one _ c.args.places l.p-index blank c.well_formed.1.0.1.0.1 (omega arith),
    )

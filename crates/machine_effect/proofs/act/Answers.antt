-- `machine_effect::act` meets its contract: each arm does what its instruction means. Assumes nothing.
use Rattle.std.proofs.Common.{inl, inr}
use Rattle.lists.proofs.Kit.{refl, ap, ◌∙◌, List, ℕ, ◌+◌}
use Rattle.area.proofs.Laws.Parts.{part-is}
use Rattle.machine_rules.specs.Effect.{span_written, effect}
use Rattle.machine_effect.specs.Parts.{told_ground, told_staging}
use Rattle.machine_effect.proofs.Laws.Cases.{arm}
use Rattle.machine_effect.proofs.act.Goals as goal

pub returns-in-Read-clause-effect : goal.returns-in-Read-clause-effect
unfolding effect
returns-in-Read-clause-effect c =
    elim c.in-Read.is [
      | inl e ↦ arm _ _ _ _ _ _ e refl
      | inr other ↦ elim other [ inl e ↦ arm _ _ _ _ _ _ e refl | inr e ↦ arm _ _ _ _ _ _ e refl ]
    ]

pub returns-in-Write-clause-effect : goal.returns-in-Write-clause-effect
unfolding effect
returns-in-Write-clause-effect c =
    let a = c.args in
    let e = a.ground.now in
    let bytes = part-is a.input.now a.from a.args.len (a.from + a.args.len) refl in
    arm e.sector (told_ground e) a.size a.args _ (told_staging a.staging.now) c.in-Write.is
    (c.write.ensures.written
    ∙ ap (λ (bs : List ℕ). span_written e.sector (told_ground e) a.args.first bs (told_staging a.staging.now)) bytes)

pub returns-in-Copy-clause-effect : goal.returns-in-Copy-clause-effect
unfolding effect
returns-in-Copy-clause-effect c = arm _ _ _ _ _ _ c.in-Copy.is c.copy.ensures.copied

pub returns-in-Swap-clause-effect : goal.returns-in-Swap-clause-effect
unfolding effect
returns-in-Swap-clause-effect c = arm _ _ _ _ _ _ c.in-Swap.is c.swap.ensures.swapped

pub returns-in-Truncate-clause-effect : goal.returns-in-Truncate-clause-effect
unfolding effect
returns-in-Truncate-clause-effect c = arm _ _ _ _ _ _ c.in-Truncate.is c.resized.ensures.resized

-- `machine_sight::seen::one` meets its contract: the first entry is the sector's, by where it is. Assumes nothing.
use Rattle.lists.proofs.Kit.{sym, ap, subst, ◌∙◌, [], ◌∷◌, arith}
use Rattle.lists.specs.Tab.{tab}
use Rattle.machine_sight.specs.Seen.{spots_of}
use Rattle.machine_rules.specs.declared.Spot.{Spot}
use Rattle.machine_rules.specs.declared.Spot.TheVariants.{OnDisk, InStage}
use Rattle.machine_sight.specs.Lookup.{Narrow}
use Rattle.machine_sight.proofs.Laws.Sights.{one-on-disk, one-in-stage}
use Rattle.machine_sight.proofs.sights.one.Goals as goal
use Rattle.machine_sight.proofs.sights.one.Goals.{In-InStage, In-OnDisk}

-- the number is a byte's
on-disk : (c : In-OnDisk) → Narrow (OnDisk c.in-OnDisk.n)
on-disk c = subst Narrow c.in-OnDisk.is c.requires

in-stage : (c : In-InStage) → Narrow (InStage c.in-InStage.n)
in-stage c = subst Narrow c.in-InStage.is c.requires

pub overflow_cast-result : goal.overflow_cast-result
overflow_cast-result c = omega (arith, on-disk c)

pub overflow_cast-result-in-InStage : goal.overflow_cast-result-in-InStage
overflow_cast-result-in-InStage c = omega (arith, in-stage c)

pub returns-in-OnDisk : goal.returns-in-OnDisk
unfolding spots_of tab
returns-in-OnDisk c = ap (λ (x : Spot). x ∷ []) (one-on-disk _ ∙ sym c.in-OnDisk.is)

pub returns-in-InStage : goal.returns-in-InStage
unfolding spots_of tab
returns-in-InStage c = ap (λ (x : Spot). x ∷ []) (one-in-stage _ 0 (in-stage c) ∙ sym c.in-InStage.is)

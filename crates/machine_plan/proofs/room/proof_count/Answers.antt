-- `machine_plan::room::proof_count` meets its contract. Assumes nothing.
use Rattle.lists.proofs.Kit.{refl, ◌∙◌}
use Rattle.lists.proofs.Laws.Pick.{yes, no}
use Rattle.machine_rules.specs.Plan.{proof_count}
use Rattle.machine_sight.proofs.Callers.{count-range}
use Rattle.machine_plan.proofs.room.proof_count.Goals as goal

pub returns : goal.returns
unfolding proof_count
returns c =
    yes _ _ _ (c.if-not-asked.false)
    (c.range_count.ensures ∙ count-range c.args.z c.args.seen c.args.args.first c.args.args.len)

pub returns-then-not-asked : goal.returns-then-not-asked
unfolding proof_count
returns-then-not-asked c = no _ _ _ (c.if-not-asked.true) refl

pub range_count-requires-clause-size : goal.range_count-requires-clause-size
unfolding proof_count
range_count-requires-clause-size c = c.requires.size

pub range_count-requires-clause-sectors_bound : goal.range_count-requires-clause-sectors_bound
unfolding proof_count
range_count-requires-clause-sectors_bound c = c.requires.seen_bound

pub range_count-requires-clause-ranged : goal.range_count-requires-clause-ranged
unfolding proof_count
range_count-requires-clause-ranged c = c.requires.ranged (c.if-not-asked.false)

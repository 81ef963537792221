-- `machine::reaching::reach` meets its contract: the starting pair after a failure, else the running one. Assumes nothing.
use Rattle.lists.proofs.Kit.{refl, ◌∙◌, []}
use Rattle.lists.proofs.Laws.Pick.{yes, no}
use Rattle.machine_rules.specs.Calls.{reached_pair_by}
use Rattle.machine_step.proofs.Laws.Hosts.{running-any}
use Rattle.machine.proofs.reaching.reach.Goals as goal

pub returns-then-host : goal.returns-then-host
unfolding reached_pair_by
returns-then-host c = c.starting_pair.ensures ∙ yes _ _ _ c.if-host.true refl

pub returns : goal.returns
unfolding reached_pair_by
returns c = c.running_pair.ensures ∙ running-any c.args.host [] [] ∙ no _ _ _ c.if-host.false refl

pub starting_pair-requires : goal.starting_pair-requires
starting_pair-requires c = c.requires.host_value

pub running_pair-requires : goal.running_pair-requires
running_pair-requires c = c.requires

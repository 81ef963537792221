-- `machine_step::pairs::running_root` meets its contract. Assumes nothing.
use Rattle.lists.proofs.Kit.{ap, ◌∙◌}
use Rattle.machine_rules.specs.Roots.{contract_root}
use Rattle.machine_step.proofs.Laws.Sights.{running-known}
use Rattle.machine_step.proofs.roots.running_root.Goals as goal

pub contract_root-requires : goal.contract_root-requires
contract_root-requires c =
    running-known _ _ _ _ _ _ c.parent_seen-seen.ensures.0 c.parent_seen-seen.ensures.1 c.requires

pub returns : goal.returns
returns c = c.contract_root.ensures ∙ ap (contract_root _) c.parent_seen-seen.ensures.0

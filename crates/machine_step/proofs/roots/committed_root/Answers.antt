-- `machine_step::pairs::committed_root` meets its contract. Assumes nothing.
use Rattle.lists.proofs.Kit.{ap, ◌∙◌}
use Rattle.machine_rules.specs.Roots.{contract_root}
use Rattle.machine_sight.proofs.Laws.Lookup.{committed-known}
use Rattle.machine_step.proofs.roots.committed_root.Goals as goal

pub contract_root-requires : goal.contract_root-requires
contract_root-requires c =
    let told = c.committed_seen-seen.ensures in
    committed-known _ _ _ _ _ told.0 told.1 c.requires

pub returns : goal.returns
returns c = c.contract_root.ensures ∙ ap (contract_root _) c.committed_seen-seen.ensures.0

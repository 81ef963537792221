-- `machine_inputs::operands::past_end` meets its contract. Assumes nothing.
use Rattle.lists.proofs.Kit.{ap, ◌∙◌}
use Rattle.lists.specs.Tests.{some}
use Rattle.machine_rules.specs.Inputs.{past_end}
use Rattle.sia.proofs.Laws.Known.{known-instruction}
use Rattle.machine_inputs.specs.Ends.{ends_past}
use Rattle.machine_inputs.proofs.Laws.Ends.{listed-all}
use Rattle.machine_inputs.proofs.operands.past_end.Goals as goal

pub returns : goal.returns
unfolding past_end
returns c =
    c.some_past.ensures ∙ ap (some (ends_past c.args.declared))
    (listed-all c.args.i.count c.args.i.operands (known-instruction c.args.i _ c.well_formed.1.0).1 _ c.listed.ensures.0)

-- `machine_inputs::operands::some_past` meets its contract: what `any` answers, in our words. Assumes nothing.
use Rattle.std.proofs.Common.{rules}
use borrow.Author.Tests.{tests}
use Rattle.lists.proofs.Kit.{take}
use Rattle.lists.proofs.Laws.Library.{any-some}
use Rattle.std.proofs.lemmas.Iterator.{YieldsList-from_slice}
use Rattle.machine_inputs.specs.Ends.{ends_past}
use Rattle.machine_inputs.proofs.operands.some_past.Goals as goal

pub returns : goal.returns
returns c =
    any-some (ends_past c.args.declared) _ _ _ c.any.ensures.ran (YieldsList-from_slice (take c.args.n c.args.list) cc)
    (λ x b q k. search (rules, tests))

-- `host_contracts::zeros` meets its contract. Assumes nothing.
use Rattle.lists.proofs.Kit.{sym, ◌∙◌, eqb}
use Rattle.std.proofs.Common.{rules, tests}
use Rattle.std.proofs.lemmas.Iterator.{YieldsList-from_slice}
use Rattle.std.proofs.lemmas.Iterator.Search.{all_from_yields_List}
use Rattle.host_contracts.proofs.Laws.Std.{every-all}
use Rattle.host_contracts.proofs.zeros.Goals as goal

pub returns : goal.returns
returns c =
    let bytes = c.args.bytes.now in
    all_from_yields_List (λ b. eqb b 0) _ _ _ c.all.ensures.ran (YieldsList-from_slice bytes cc) (λ x b q k. search (rules, tests))
    ∙ sym (every-all (λ b. eqb b 0) bytes)

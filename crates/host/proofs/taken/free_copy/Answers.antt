-- `host::taken::free_copy` meets its contract. Assumes nothing.
use Rattle.lists.proofs.Kit.{refl, sym, ap, ◌∙◌, zero-add, arith}
use Rattle.lists.specs.Tests.{unused}
use Rattle.std.proofs.Common.{rules, tests}
use Rattle.std.specs.Option.{unwrap_or}
use Rattle.std.proofs.lemmas.Iterator.{YieldsList-from_range}
use Rattle.std.proofs.lemmas.Iterator.Adapters.{option_map_id}
use Rattle.std.proofs.lemmas.Iterator.Search.{find_from_yields_List}
use Rattle.host.specs.Places.{free_copy}
use Rattle.host.proofs.Laws.Chains.{lowest-found}
use Rattle.host.proofs.taken.free_copy.Goals as goal

pub returns : goal.returns
unfolding free_copy
returns c =
    let a = c.args in
    let numbers = YieldsList-from_range 0 a.stage a.stage refl (omega arith) in
    let found = find_from_yields_List (unused a.staged) _ _ c.find.result c.find.ensures.ran numbers (λ x b q k. search (rules, tests)) in
    c.unwrap_or.ensures
    ∙ ap (λ o. unwrap_or o a.stage) (sym (option_map_id c.find.result) ∙ found)
    ∙ sym (rw zero-add at (lowest-found (unused a.staged) 0 a.stage))

-- `host::places::place_number` meets its contract. Assumes nothing.
use Rattle.lists.proofs.Kit.{◌∙◌}
use Rattle.std.proofs.Common.{rules, tests}
use Rattle.std.proofs.lemmas.Iterator.{YieldsList-from_slice}
use Rattle.std.proofs.lemmas.Iterator.Search.{position_from_yields_List}
use Rattle.host.specs.Places.{has_id}
use Rattle.host.proofs.Laws.Chains.{first-or}
use Rattle.host.proofs.places.place_number.Goals as goal

pub returns : goal.returns
returns c =
    let a = c.args in
    let o = c.position.result in
    let places = YieldsList-from_slice a.places cc in
    c.unwrap_or.ensures
    ∙ first-or (has_id a.id) a.places o 8 c.well_formed.0.1.0.1
    (position_from_yields_List (has_id a.id) _ _ o c.position.ensures.ran places (λ x b q k. search (rules, tests)))

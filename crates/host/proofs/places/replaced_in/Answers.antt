-- `host::places::replaced_in` meets its contract. Assumes nothing.
use Rattle.lists.proofs.Kit.{sym, ◌∙◌}
use Rattle.lists.specs.Pick.{pick}
use Rattle.std.proofs.Common.{rules, tests}
use Rattle.host.specs.Places.{has_id}
use Rattle.host.specs.Calls.{replaced}
use Rattle.host.proofs.Laws.Places.{blank}
use Rattle.lists.proofs.Laws.Library.{each-map}
use Rattle.host.proofs.Laws.Chains.{mapped}
use Rattle.host.proofs.places.replaced_in.Goals as goal

pub returns : goal.returns
unfolding replaced
returns c =
    let a = c.args in
    mapped _ _ (λ q. pick (has_id a.id q) a.by q) (λ x y q k. search (rules, tests)) 8 a.places c.map.result blank c.well_formed.0.1.0.1 c.map.ensures.items
    ∙ sym (each-map (λ q. pick (has_id a.id q) a.by q) a.places)

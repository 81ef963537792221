-- `machine_plan::lookup::contract_source` meets its contract: a walk down the definition. Assumes nothing.
use Rattle.lists.proofs.Kit.{◌≡◌, true, sym, ap, ◌∙◌, not-true, not-false}
use Rattle.host.specs.Places.{whose}
use Rattle.machine_sight.proofs.Callers.{parent-spots}
use Rattle.machine_plan.proofs.Laws.Lookup.{not_found, own-found, other-found, parent-whose}
use Rattle.host.proofs.Laws.Whose.{whose-order}
use Rattle.machine_rules.specs.View.{committed_spots}
use Rattle.machine_rules.specs.Plan.{seen}
use Rattle.host.specs.declared.Place.{Place}
use Rattle.host.specs.Order.{place_in_order}
use Rattle.machine_plan.proofs.lookup.contract_source.Goals as goal
use Rattle.machine_plan.proofs.lookup.contract_source.Goals.{Else-not-other}

-- a contract has that id
held : (c : Else-not-other) → let a = c.args in (whose a.key a.setting.now.places).held ≡ true
held c = ap (λ (q : Place). q.held) (sym c.place_of-other.ensures) ∙ not-false _ c.if-not-other.false

pub returns-then-not-other : goal.returns-then-not-other
returns-then-not-other c =
    let a = c.args in
    not_found a.setting.now a.p a.key (ap (λ (q : Place). q.held) (sym c.place_of-other.ensures) ∙ not-true _ c.if-not-other.true)

pub returns-then-same_id : goal.returns-then-same_id
returns-then-same_id c =
    let a = c.args in
    let same = sym c.same_id.ensures ∙ c.if-same_id.true in
    ap seen (c.parent_seen.ensures.0
    ∙ parent-spots a.setting.now a.p _ (c.place_of-other.ensures ∙ parent-whose a.setting.now a.key same))
    ∙ own-found a.setting.now a.p a.key (held (goal.at.returns-then-same_id c).Else-not-other) same

pub committed_seen-requires : goal.committed_seen-requires
committed_seen-requires c =
    let a = c.args in
    let z = a.setting.now.sector in
    record {
      size = c.requires.size;
      place_value = ap (place_in_order z) c.place_of-other.ensures ∙ whose-order z a.key a.setting.now.places c.requires.places_value;
    }

pub returns : goal.returns
returns c =
    let a = c.args in
    ap seen (c.committed_seen.ensures.0 ∙ ap (committed_spots a.setting.now.sector) c.place_of-other.ensures)
    ∙ other-found a.setting.now a.p a.key (held (goal.at.returns c).Else-not-other) (sym c.same_id.ensures ∙ c.if-same_id.false)

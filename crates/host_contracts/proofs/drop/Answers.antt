-- `host_contracts::drop` meets its contract: a walk down the definition. Assumes nothing.
use Rattle.std.proofs.Common.{rules, Err}
use Rattle.lists.proofs.Kit.{◌≡◌, refl, sym, ap, ◌∙◌, not, List}
use Rattle.lists.proofs.Laws.Pick.{yes, no}
use Rattle.host.specs.With.{with_places}
use Rattle.host.specs.Calls.{answered, made_of, replaced, dropped}
use Rattle.host.specs.declared.Place.{Place}
use Rattle.host.proofs.Laws.Refusals.{number-some}
use Rattle.host_contracts.proofs.Laws.Early.{stops, goes-on}
use Rattle.host_contracts.proofs.drop.Goals as goal

pub returns-in_err-ready : goal.returns-in_err-ready
unfolding dropped
returns-in_err-ready c =
    let why = c.in_err-ready.field-0.0 in
    let is : c.from_residual.result ≡ Err why = search rules in
    ap (made_of c.args.host) is ∙ stops c.args.host _ _ _ _ c.in_err-ready.ensures (number-some why)

pub returns-then-not-place_of : goal.returns-then-not-place_of
unfolding dropped
returns-then-not-place_of c =
    yes _ _ _ (ap (λ (p : Place). not p.held) (sym c.place_of.ensures) ∙ c.if-not-place_of.true) refl
    ∙ goes-on c.args.host _ _ _ _ c.in_ok-ready.ensures refl

pub returns : goal.returns
unfolding dropped with_places
returns c =
    no _ _ _ (ap (λ (p : Place). not p.held) (sym c.place_of.ensures) ∙ c.if-not-place_of.false)
    (ap (λ (l : List Place). answered 0 (with_places c.args.host l))
    (c.replaced_in-places.ensures ∙ ap (λ (p : Place). replaced c.args.id p c.args.host.places) c.none.ensures))
    ∙ goes-on c.args.host _ _ _ _ c.in_ok-ready.ensures refl

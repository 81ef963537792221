-- `host_contracts::form_in` meets its contract: a walk down the definition. Assumes nothing.
use Rattle.std.proofs.Common.{rules, Result, Some, None, Err, position}
use Rattle.lists.proofs.Kit.{◌≡◌, refl, sym, ap, ◌∙◌, not, List, set, arith, ◌<◌}
use Rattle.lists.proofs.Laws.Pick.{yes, no}
use Rattle.host.specs.With.{with_places}
use Rattle.host.specs.Refusals.{told}
use Rattle.host.specs.Calls.{answered, formed}
use Rattle.host.specs.declared.Place.{Place}
use Rattle.host.proofs.Laws.Refusals.{number-some}
use Rattle.host_contracts.proofs.Laws.Early.{stops, goes-on}
use Rattle.host.specs.declared.refusal.Refusal.{Refusal}
use Rattle.host.specs.declared.refusal.Refusal.TheVariants.{NoPlace}
use Rattle.host_contracts.proofs.Laws.Free.{is_free, full, room, formed-in}
use Rattle.host_contracts.proofs.form_in.Goals as goal

pub returns-in_err-ready : goal.returns-in_err-ready
unfolding formed
returns-in_err-ready c =
    let why = c.in_err-ready.field-0.0 in
    let is : c.from_residual.result ≡ Err why = search rules in
    ap (λ (r : Result Unit Refusal). answered (told r) c.args.host.now) is ∙ stops c.args.host.now _ _ _ _ c.in_err-ready.ensures (number-some why)

pub returns-then-padded : goal.returns-then-padded
unfolding formed
returns-then-padded c =
    yes _ _ _ (sym c.if-padded.ensures) refl ∙ goes-on c.args.host.now _ _ _ _ c.in_ok-ready.ensures refl

pub returns-then-place_of : goal.returns-then-place_of
unfolding formed
returns-then-place_of c =
    no _ _ _ (sym c.if-padded.ensures)
    (yes _ _ _ (ap (λ (p : Place). p.held) (sym c.place_of.ensures) ∙ c.if-place_of.true) refl)
    ∙ goes-on c.args.host.now _ _ _ _ c.in_ok-ready.ensures refl

pub returns-in_err-free : goal.returns-in_err-free
unfolding formed
returns-in_err-free c =
    let is : c.from_residual-in_err-free.result ≡ Err NoPlace = search rules in
    let gone : c.free_place.result ≡ None = search rules in
    ap (λ (r : Result Unit Refusal). answered (told r) c.args.host.now) is
    ∙ no _ _ _ (sym c.if-padded.ensures)
    (no _ _ _ (ap (λ (p : Place). p.held) (sym c.place_of.ensures) ∙ c.if-place_of.false)
    (yes _ _ _ (ap not (full _ (sym c.free_place.ensures.number ∙ gone))) refl))
    ∙ goes-on c.args.host.now _ _ _ _ c.in_ok-ready.ensures refl

pub returns : goal.returns
unfolding formed with_places
returns c =
    let is : c.free_place.result ≡ Some c.in_ok-free.free = search rules in
    let at : position is_free c.args.host.now.places ≡ Some c.in_ok-free.free = sym c.free_place.ensures.number ∙ is in
    let placed = ap (set c.args.host.now.places c.in_ok-free.free) c.new_place.ensures ∙ formed-in _ c.args.id _ at in
    no _ _ _ (sym c.if-padded.ensures)
    (no _ _ _ (ap (λ (p : Place). p.held) (sym c.place_of.ensures) ∙ c.if-place_of.false)
    (no _ _ _ (ap not (room _ _ at)) (ap (λ (l : List Place). answered 0 (with_places c.args.host.now l)) placed)))
    ∙ goes-on c.args.host.now _ _ _ _ c.in_ok-ready.ensures refl

pub offset_bounds-host-free : goal.offset_bounds-host-free
offset_bounds-host-free c =
    let is : c.free_place.result ≡ Some c.in_ok-free.free = search rules in
    let below : c.in_ok-free.free < 8 = search (rules, is) in
    omega (arith, below)

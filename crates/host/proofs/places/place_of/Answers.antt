-- `host::places::place_of` meets its contract. Assumes nothing.
use Rattle.lists.proofs.Kit.{◌≡◌, sym, ap, ◌∙◌, List, ℕ}
use Rattle.std.proofs.Common.{rules, tests, Option, Bor}
use Rattle.std.specs.List.{find}
use Rattle.std.specs.Option.{unwrap_or, option_map}
use Rattle.std.proofs.lemmas.Iterator.{YieldsList-from_slice}
use Rattle.std.proofs.lemmas.Iterator.Search.{find_from_yields_List}
use Rattle.host.specs.Empty.{no_place}
use Rattle.host.specs.Places.{has_id, whose}
use Rattle.host.specs.declared.Place.{Place}
use Rattle.host.proofs.Laws.Places.{whose-found}
use Rattle.host.proofs.places.place_of.Goals as goal

-- the place that is found, or one that holds none
abbrev place : Option (Bor Place) → Place
place o = unwrap_or (option_map (λ p. p.now) o) no_place

is-whose : (id : List ℕ) (ps : List Place) (o : Option (Bor Place)) → option_map (λ p. p.now) o ≡ find (has_id id) ps → place o ≡ whose id ps
is-whose id ps o found = ap (λ (r : Option Place). unwrap_or r no_place) found ∙ sym (whose-found id ps)

pub returns-in-Some : goal.returns-in-Some
returns-in-Some c =
    let a = c.args in
    let places = YieldsList-from_slice a.places cc in
    let found = find_from_yields_List (has_id a.id) _ _ c.find.result c.find.ensures.ran places (λ x b q k. search (rules, tests)) in
    ap place (sym c.in-Some.is) ∙ is-whose a.id a.places c.find.result found

pub returns-in-None : goal.returns-in-None
returns-in-None c =
    let a = c.args in
    let places = YieldsList-from_slice a.places cc in
    let found = find_from_yields_List (has_id a.id) _ _ c.find.result c.find.ensures.ran places (λ x b q k. search (rules, tests)) in
    c.none.ensures ∙ ap place (sym c.in-None.is) ∙ is-whose a.id a.places c.find.result found

-- What holds of the record of a host and of its calls, besides the contracts. Assumes nothing.
use Rattle.lists.proofs.Kit.{◌≡◌, refl, ap, true, false, not, List, [], ◌∷◌, ℕ}
use Rattle.lists.specs.Pick.{pick}
use Rattle.lists.specs.Tests.{every, some, those, apart}
use Rattle.lists.proofs.Laws.Pick.{picks, both-join, both_right}
use Rattle.area.specs.Area.{same}
use Rattle.area.proofs.Laws.Same.{same-eq, eq-same}
use Rattle.sia.specs.Encode.{joined}
use Rattle.host.specs.Sizes.{doubled, is_size}
use Rattle.host.specs.Empty.{no_place, no_progress, no_prices, no_terms, no_program, new_place, bare}
use Rattle.host.specs.With.{with_places}
use Rattle.host.specs.Places.{has_id, whose, committed, taken}
use Rattle.host.specs.Order.{lent, place_in_order, twins, places_in_order, in_order}
use Rattle.host.specs.Calls.{answered, length_right, freshed, padded, formed_at, formed, dropped}
use Rattle.host.specs.Bench.{id_of, bench_host, two_forms}
use Rattle.host.specs.declared.Place.{Place}

-- ---- identity: a place holds the contract of an id exactly when all bytes are those

pub found-same : (id : List ℕ) (p : Place) → has_id id p ≡ true → p.id ≡ id
unfolding has_id
found-same id p e = same-eq _ _ (both_right p.held _ e)

pub same-found : (id : List ℕ) (p : Place) → p.held ≡ true → p.id ≡ id → has_id id p ≡ true
unfolding has_id
same-found id p h e = both-join _ _ h (eq-same _ _ e)

-- ---- a host with no slots: every later call refuses it with 1

pub no-slots-refused : in_order (bare 0 0 0) ≡ false
unfolding in_order is_size doubled lent bare pick
no-slots-refused = refl

pub no-slots-formed : (id : List ℕ) → formed (bare 0 0 0) id ≡ answered 1 (bare 0 0 0)
unfolding formed
no-slots-formed id = picks _ _ _ (ap not no-slots-refused)

pub no-slots-dropped : (id : List ℕ) → dropped (bare 0 0 0) id ≡ answered 1 (bare 0 0 0)
unfolding dropped
no-slots-dropped id = picks _ _ _ (ap not no-slots-refused)

-- ---- "(P) Ids equal but for byte 31 form two contracts."

pub two-contracts : two_forms (id_of 1) (id_of 2) ≡ 0 ∷ 0 ∷ 2 ∷ []
unfolding two_forms bench_host freshed is_size doubled length_right lent bare no_place no_program no_terms no_prices no_progress padded formed in_order
    places_in_order place_in_order twins taken committed every joined some those apart whose has_id same formed_at new_place with_places pick
two-contracts = refl

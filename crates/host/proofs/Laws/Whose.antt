-- The contract of an id, and the places of none and of a new one. Assumes nothing.
use Rattle.lists.proofs.Kit.{◌≡◌, refl, ap, ◌∙◌, true, false, List, [], ◌∷◌, ℕ, ◌/◌, zero-div, take}
use Rattle.lists.specs.Pick.{pick}
use Rattle.lists.specs.Tests.{every}
use Rattle.lists.proofs.Laws.Pick.{by, picks, skips, both_left, both_right}
use Rattle.area.specs.Area.{zeros}
use Rattle.host.specs.Empty.{no_place, new_place}
use Rattle.host.specs.Places.{has_id, whose, committed}
use Rattle.host.specs.Order.{place_in_order}
use Rattle.host.specs.declared.Place.{Place}

pub has-held : (id : List ℕ) (p : Place) → has_id id p ≡ true → p.held ≡ true
unfolding has_id
has-held id p e = both_left _ _ e

pub has-none : (id : List ℕ) (p : Place) → p.held ≡ false → has_id id p ≡ false
unfolding has_id
has-none id p e = skips p.held _ false e

pub no-id : (id : List ℕ) → has_id id no_place ≡ false
unfolding no_place
no-id id = has-none id no_place refl

pub none_bare : (z : ℕ) → committed z no_place ≡ []
unfolding committed no_place pick
none_bare z = refl

pub new-bare : (z : ℕ) (id : List ℕ) → committed z (new_place id) ≡ []
unfolding committed new_place pick
new-bare z id = ap (λ (n : ℕ). take n (zeros 64)) (zero-div z)

pub none-order : (z : ℕ) → place_in_order z no_place ≡ true
unfolding place_in_order no_place pick
none-order z = refl

pub committed-held : (z : ℕ) (p : Place) → p.held ≡ true → committed z p ≡ take (p.size / z) p.slots
unfolding committed
committed-held z p e = picks p.held _ [] e

-- the contract of an id is in order, where all are
pub whose-order : (z : ℕ) (id : List ℕ) (ps : List Place) → every (place_in_order z) ps ≡ true → place_in_order z (whose id ps) ≡ true
unfolding whose every
whose-order z id [] h = none-order z
whose-order z id (p ∷ ps) h =
    by (has_id id p)
    (λ e. ap (place_in_order z) (picks (has_id id p) p (whose id ps) e) ∙ both_left _ _ h)
    (λ e. ap (place_in_order z) (skips (has_id id p) p (whose id ps) e) ∙ whose-order z id ps (both_right _ _ h))

-- The places with the parent at its final size and slots are in order. Assumes nothing.
use Rattle.lists.proofs.Kit.{◌≡◌, refl, sym, ap, ◌∙◌, subst, true, not, List, ◌∷◌, ◌++◌, ℕ, ◌/◌, ◌%◌, ◌≤◌, arith, length-append, ltb, eqb, le-leb, eq-eqb}
use Rattle.lists.specs.Tests.{every, apart}
use Rattle.lists.proofs.Laws.Pick.{skips, both_left, both_right, both-join}
use Rattle.lists.proofs.Laws.Every.{every-and, every-fore, every-aft, every_first, every_rest, every-cons}
use Rattle.lists.proofs.Laws.Pigeons.{pigeons}
use Rattle.host.specs.With.{with_size, with_slots}
use Rattle.host.specs.Places.{taken}
use Rattle.host.specs.Order.{place_in_order, twins, places_in_order}
use Rattle.host.specs.Calls.{replaced}
use Rattle.machine_rules.specs.Commit.{final_place}
use Rattle.machine_rules.proofs.Laws.Sizes.{place-size}
use Rattle.host.proofs.Laws.Whose.{has-held}
use Rattle.machine_rules.proofs.Laws.Split.{apart-alike, Split, replaced-split, taken-split}
use Rattle.host.specs.declared.Place.{Place}
use Rattle.machine_rules.proofs.Laws.Final.{Final}

module _ (z disk size : ℕ) (id : List ℕ) (ps : List Place) (s : Split id ps) (f : Final z disk size id ps s) (few : disk ≤ 64)
    (o : places_in_order z disk ps ≡ true) (whole : size % z ≡ 0) where
  unfoldable place : Place
  place = final_place s.it size f.slots

  place-held : place.held ≡ s.it.held
  unfolding place final_place with_slots with_size
  place-held = refl

  place-id : place.id ≡ s.it.id
  unfolding place final_place with_slots with_size
  place-id = refl

  each-place : every (place_in_order z) (s.before ++ (s.it ∷ s.behind)) ≡ true
  unfolding places_in_order
  each-place = subst (λ (l : List Place). every (place_in_order z) l ≡ true) s.is (both_left _ _ o)

  -- as many sectors as slots, which are distinct and below the disk's number
  few-slots : size / z ≤ disk
  few-slots = omega (
    arith,
    f.long,
    pigeons disk (taken z s.before ++ (f.slots ++ taken z s.behind)) f.own f.below,
    length-append (taken z s.before) (f.slots ++ taken z s.behind),
    length-append f.slots (taken z s.behind),
  )

  place-order : place_in_order z place ≡ true
  unfolding place_in_order place final_place with_slots with_size
  place-order =
      let held = has-held id s.it s.here in
      let old = every_first _ s.it s.behind (every-aft _ s.before _ each-place) in
      skips (not s.it.held) true _ (ap not held) ∙ both-join _ _ (ap not (place-size z s.it old held).2)
      (both-join _ _ (eq-eqb _ 0 whole) (le-leb (size / z) 64 (omega (arith, few-slots))))

  taken_is : taken z (replaced id place ps) ≡ taken z s.before ++ (f.slots ++ taken z s.behind)
  unfolding place
  taken_is = ap (taken z) (replaced-split id place ps s) ∙ taken-split z s.before place s.behind
      ∙ ap (λ (l : List ℕ). taken z s.before ++ (l ++ taken z s.behind)) f.place

  -- "positions past the final size free their slots; kept positions keep theirs; new ones, ascending, take the lowest free": the places are in order
  pub committed-order : places_in_order z disk (replaced id (final_place s.it size f.slots) ps) ≡ true
  unfolding places_in_order place
  committed-order =
      let e = replaced-split id place ps s in
      both-join _ _
      (ap (every (place_in_order z)) e ∙ every-and _ s.before (place ∷ s.behind) (every-fore _ s.before _ each-place)
      (every-cons _ place s.behind place-order (every_rest _ s.it s.behind (every-aft _ s.before _ each-place))))
      (both-join _ _
      (ap (apart twins) e ∙ apart-alike s.before place s.it s.behind place-held place-id ∙ sym (ap (apart twins) s.is)
      ∙ both_left _ _ (both_right _ _ o))
      (both-join _ _ (ap (apart eqb) taken_is ∙ f.own) (ap (every (λ x. ltb x disk)) taken_is ∙ f.below)))

-- Forming and dropping under new ids: down the two chains of each call side by side. Assumes nothing.
use Rattle.lists.proofs.Kit.{◌≡◌, refl, sym, ap, ◌∙◌, not, List, [], ◌∷◌, ℕ}
use Rattle.lists.specs.Pick.{pick, either}
use Rattle.lists.specs.Tests.{some, each}
use Rattle.lists.proofs.Laws.Ways.{down}
use Rattle.host.specs.Empty.{no_place, new_place}
use Rattle.host.specs.With.{with_places}
use Rattle.host.specs.Places.{whose}
use Rattle.host.specs.Calls.{answered, padded, formed_at, formed, replaced, dropped}
use Rattle.host.specs.Renaming.{Renaming, place_as, host_as}
use Rattle.host.proofs.Renaming.Places.{all_as, word-as, whose-as, replaced-as, in-order-as}
use Rattle.host.specs.declared.Place.{Place}
use Rattle.host.specs.declared.Host.{Host}
use Rattle.host.specs.Calls.{Made}

module _ (r : List ℕ → List ℕ) (new : Renaming r) where
  -- ---- what a call looks at

  pub active-as : (h : Host) → (host_as r h).program.active ≡ h.program.active
  unfolding host_as
  active-as h = refl

  pub whose-places : (h : Host) (id : List ℕ) → whose (r id) (host_as r h).places ≡ place_as r (whose id h.places)
  unfolding host_as
  whose-places h id = whose-as r new id h.places

  -- ---- forming and dropping

  unfoldable pub formed_as : Made → Made
  formed_as x = answered x.number (host_as r x.host)

  formed-not : (n : ℕ) (h : Host) → answered n (host_as r h) ≡ formed_as (answered n h)
  unfolding formed_as
  formed-not n h = refl

  free-as : (ps : List Place) → some (λ p. not p.held) (all_as r new ps) ≡ some (λ p. not p.held) ps
  unfolding some each
  free-as [] = refl
  free-as (p ∷ ps) = ap (either (not p.held)) (free-as ps)

  free-places : (h : Host) → some (λ p. not p.held) (host_as r h).places ≡ some (λ p. not p.held) h.places
  unfolding host_as
  free-places h = free-as h.places

  lowest-as : (id : List ℕ) (ps : List Place) → formed_at (r id) (all_as r new ps) ≡ all_as r new (formed_at id ps)
  unfolding formed_at each new_place pick
  lowest-as id [] = refl
  lowest-as id (p ∷ ps) =
      down (all_as r new) p.held p.held _ _ (p ∷ formed_at id ps) (new_place id ∷ ps) refl
      (λ e. ap (λ (l : List Place). place_as r p ∷ l) (lowest-as id ps)) (λ e. refl)

  formed-done : (h : Host) (id : List ℕ)
      → answered 0 (with_places (host_as r h) (formed_at (r id) (host_as r h).places))
      ≡ formed_as (answered 0 (with_places h (formed_at id h.places)))
  unfolding formed_as host_as with_places
  formed-done h id = ap (λ (ps : List Place). answered 0 (with_places (host_as r h) ps)) (lowest-as id h.places)

  pub forming-as : (h : Host) (id : List ℕ) → padded (r id) ≡ padded id → formed (host_as r h) (r id) ≡ formed_as (formed h id)
  unfolding formed
  forming-as h id e =
      down formed_as _ _ _ _ _ _ (ap not (in-order-as r new h)) (λ _. formed-not 1 h) (λ _.
      down formed_as _ _ _ _ _ _ (active-as h) (λ _. formed-not 3 h) (λ _.
      down formed_as _ _ _ _ _ _ (word-as r new id) (λ _. formed-not 5 h) (λ _.
      down formed_as _ _ _ _ _ _ e (λ _. formed-not 15 h) (λ _.
      down formed_as _ _ _ _ _ _ (ap (λ (p : Place). p.held) (whose-places h id)) (λ _. formed-not 6 h) (λ _.
      down formed_as _ _ _ _ _ _ (ap not (free-places h)) (λ _. formed-not 8 h) (λ _. formed-done h id))))))

  no-place-as : place_as r no_place ≡ no_place
  unfolding no_place pick
  no-place-as = refl

  dropped-done : (h : Host) (id : List ℕ)
      → answered 0 (with_places (host_as r h) (replaced (r id) no_place (host_as r h).places))
      ≡ formed_as (answered 0 (with_places h (replaced id no_place h.places)))
  unfolding formed_as host_as with_places
  dropped-done h id =
      ap (λ (ps : List Place). answered 0 (with_places (host_as r h) ps))
      (ap (λ (p : Place). replaced (r id) p (all_as r new h.places)) (sym no-place-as) ∙ replaced-as r new id no_place h.places)

  pub dropping-as : (h : Host) (id : List ℕ) → dropped (host_as r h) (r id) ≡ formed_as (dropped h id)
  unfolding dropped
  dropping-as h id =
      down formed_as _ _ _ _ _ _ (ap not (in-order-as r new h)) (λ _. formed-not 1 h) (λ _.
      down formed_as _ _ _ _ _ _ (active-as h) (λ _. formed-not 3 h) (λ _.
      down formed_as _ _ _ _ _ _ (word-as r new id) (λ _. formed-not 5 h) (λ _.
      down formed_as _ _ _ _ _ _ (ap (λ (p : Place). not p.held) (whose-places h id)) (λ _. formed-not 7 h) (λ _. dropped-done h id))))

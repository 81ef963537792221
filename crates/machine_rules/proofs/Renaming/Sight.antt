-- What is seen under new ids: the same sectors, so the same pairs. Assumes nothing.
use Rattle.lists.proofs.Kit.{◌≡◌, refl, ap₂, Bool, List, [], ◌∷◌, ◌++◌, ℕ, suc}
use Rattle.lists.specs.Pick.{pick}
use Rattle.lists.specs.Tests.{each, first_of}
use Rattle.host.specs.Places.{has_id, whose, committed}
use Rattle.machine_rules.specs.View.{parent, read_only_mode, parent_spots, committed_spots, Volume}
use Rattle.machine_rules.specs.declared.Setting.{Setting}
use Rattle.machine_rules.specs.Seats.{seated, committed_seats, seats, nobody, all_seats, seats_of}
use Rattle.machine_rules.specs.Roots.{root_of}
use Rattle.machine_rules.specs.Plan.{contract_source, sector_source}
use Rattle.machine_rules.specs.Record.{pair_of, starting_pair, running_pair}
use Rattle.host.specs.Renaming.{Renaming, place_as, terms_as}
use Rattle.host.proofs.Renaming.Places.{word-as, has-as, all_as, whose-as, committed-as}
use Rattle.host.specs.declared.Place.{Place}
use Rattle.host.specs.declared.Progress.{Progress}
use Rattle.machine_rules.specs.declared.Spot.{Spot}
use Rattle.machine_rules.specs.declared.Seat.{Seat}

module _ (r : List ℕ → List ℕ) (new : Renaming r) where
  abbrev pub setting_as : Setting → Setting
  setting_as s = record {
    sector = s.sector;
    disksectors = s.disksectors;
    stagesectors = s.stagesectors;
    places = all_as r new s.places;
    terms = terms_as r s.terms;
  }

  pub parent-as : (s : Setting) → parent (setting_as s) ≡ place_as r (parent s)
  unfolding parent
  parent-as s = whose-as r new s.terms.head.contract s.places

  pub spots-as : (s : Setting) (p : Progress) → parent_spots (setting_as s) p ≡ parent_spots s p
  unfolding parent_spots
  spots-as s p = rw (parent-as s)

  pub starting-as : (s : Setting) (vol : Volume) → starting_pair (setting_as s) vol ≡ starting_pair s vol
  unfolding starting_pair pair_of committed_spots root_of
  starting-as s vol = rw (parent-as s, committed-as r new s.sector (parent s))

  pub running-as : (s : Setting) (f : Spot → List ℕ) (p : Progress) → running_pair (setting_as s) f p ≡ running_pair s f p
  unfolding running_pair
  running-as s f p = rw (spots-as s p)

  pub contract-as : (s : Setting) (p : Progress) (id : List ℕ) → contract_source (setting_as s) p (r id) ≡ contract_source s p id
  unfolding contract_source committed_spots
  contract-as s p id =
      let c = s.terms.head.contract in
      rw (whose-as r new id s.places, spots-as s p, committed-as r new s.sector (whose id s.places), new.differ id c)

  -- the places that a test passes are as many before the first, and the others have the same sectors
  module _ (z : ℕ) (mine mine' : Place → Bool) (alike : (p : Place) → mine' (place_as r p) ≡ mine p) where
    first-as : (ps : List Place) → first_of mine' (all_as r new ps) ≡ first_of mine ps
    unfolding first_of each
    first-as [] = refl
    first-as (p ∷ ps) = ap₂ (λ (b : Bool) (n : ℕ). pick b 0 (suc n)) (alike p) (first-as ps)

    others-as : (i : ℕ) (ps : List Place) → committed_seats z mine' i (all_as r new ps) ≡ committed_seats z mine i ps
    unfolding committed_seats committed_spots committed each
    others-as i [] = refl
    others-as i (p ∷ ps) =
        ap₂ (λ (b : Bool) (l : List Seat). pick b [] (seated i 0 (committed_spots z p)) ++ l) (alike p) (others-as (suc i) ps)

    seats-as : (own : List Spot) (ps : List Place) → seats z mine' own (all_as r new ps) ≡ seats z mine own ps
    unfolding seats
    seats-as own ps = rw (first-as ps, others-as 0 ps)

  pub all-seats-as : (z : ℕ) (ps : List Place) → all_seats z (all_as r new ps) ≡ all_seats z ps
  unfolding nobody
  all-seats-as z ps = seats-as z nobody nobody (λ p. refl) [] ps

  pub seats-of-as : (s : Setting) (p : Progress) → seats_of (setting_as s) p ≡ seats_of s p
  unfolding seats_of read_only_mode
  seats-of-as s p =
      let id = s.terms.head.contract in
      rw (
        word-as r new id,
        all-seats-as s.sector s.places,
        spots-as s p,
        seats-as s.sector (has_id id) (has_id (r id)) (has-as r new id)
            (parent_spots s p) s.places,
      )

  pub sector-as : (s : Setting) (f : Spot → List ℕ) (p : Progress) (key : List ℕ)
      → sector_source (setting_as s) f p key ≡ sector_source s f p key
  unfolding sector_source
  sector-as s f p key = rw (seats-of-as s p)

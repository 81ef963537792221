-- A search by root in which at most one place is mine: the look-up finds the first sector that has the root, in the order that is stated. f reads
-- roots. Assumes nothing.
use Rattle.lists.proofs.Kit.{◌≡◌, sym, ap, ◌∙◌, true, false, List, ℕ, ◌<◌, arith, length, get_or, ltb, eqb}
use Rattle.lists.proofs.Kit.{eqb-true, eqb-false, ltb-true, ltb-false}
use Rattle.lists.specs.Tests.{first_of}
use Rattle.lists.proofs.Laws.Pick.{by, picks, skips}
use Rattle.area.specs.Area.{same}
use Rattle.host.specs.Empty.{no_place}
use Rattle.machine_rules.specs.View.{committed_spots}
use Rattle.machine_rules.specs.Seats.{seated, committed_seats, seats, first_seat}
use Rattle.machine_rules.specs.StageFirst.{Search, is_mine, sectors_at, Sits, earlier, Finds}
use Rattle.machine_rules.proofs.Laws.Sought.{spot_at, Here, seated-at, seated-none}
use Rattle.machine_rules.proofs.Laws.Found.{nowhere-at, cases, or_else, first-both, sought-root}
use Rattle.machine_rules.proofs.Laws.Sought.{There, committed-at, committed-none}
use Rattle.host.specs.declared.Place.{Place}
use Rattle.machine_rules.specs.declared.Spot.{Spot}
use Rattle.machine_rules.specs.declared.Seat.{Seat}
use Rattle.std.specs.Prelude.{Option}
use Rattle.machine_rules.proofs.Laws.Earlier.{Apart, no-sectors, past_end_lem, in-one-place, before-mine, before-other}

module _ (q : Search) (f : Spot → List ℕ) (key : List ℕ) (apt : Apart q) where
  abbrev z : ℕ
  z = q.sector

  abbrev place : ℕ → Place
  place i = get_or q.places i no_place

  -- the place that is mine
  abbrev home : ℕ
  home = first_of q.mine q.places

  abbrev fore : Option Seat
  fore = first_seat f key (seated home 0 q.own)

  abbrev aft : Option Seat
  aft = first_seat f key (committed_seats z q.mine 0 q.places)

  mine-at : (i : ℕ) → is_mine q i ≡ true → sectors_at q i ≡ q.own
  unfolding sectors_at
  mine-at i e = picks (is_mine q i) q.own (committed_spots z (place i)) e

  other_at : (i : ℕ) → is_mine q i ≡ false → sectors_at q i ≡ committed_spots z (place i)
  unfolding sectors_at
  other_at i e = skips (is_mine q i) q.own (committed_spots z (place i)) e

  -- a sector of a list, by what the list is
  sits-in : (x : Seat) {l : List Spot} → sectors_at q x.place ≡ l → x.position < length l → x.spot ≡ spot_at l x.position → Sits q x
  sits-in x e below at = record {
    within = omega (arith, below, ap length e);
    spot = at ∙ ap (λ (m : List Spot). spot_at m x.position) (sym e);
  }

  -- one that sits in a list none of whose sectors has the root has not
  misses-in : (y : Seat) → Sits q y → {l : List Spot} → sectors_at q y.place ≡ l
      → ((j : ℕ) → j < length l → same (f (spot_at l j)) key ≡ false) → same (f y.spot) key ≡ false
  misses-in y s {l} e none =
      ap (λ (x : Spot). same (f x) key) (s.spot ∙ ap (λ (m : List Spot). spot_at m y.position) e)
      ∙ none y.position (omega (arith, s.within, ap length e))

  -- what sits in a place sits in one that there is
  there-is : (y : Seat) → Sits q y → is_mine q y.place ≡ false → y.place < length q.places
  there-is y s other =
      by (ltb y.place (length q.places))
      (λ t. ltb-true _ _ t)
      (λ t. let none = ap (λ (p : Place). length (committed_spots z p)) (past_end_lem q.places y.place (ltb-false _ _ t)) in
      absurd (omega (arith, s.within, ap length (other_at y.place other), none, no-sectors z)))

  -- ---- in the place that is mine

  module _ (x : Seat) (h : Here f key home 0 q.own x) where
    at_home : x.place ≡ home
    at_home = sym (ap (λ (y : Seat). y.place) h.is)

    at-k : x.position ≡ h.k
    at-k = let e = ap (λ (y : Seat). y.position) h.is in omega (arith, e)

    home-mine : is_mine q home ≡ true
    home-mine = apt.there (omega (arith, h.below))

    mine-sits : Sits q x
    mine-sits =
        sits-in x (ap (sectors_at q) at_home ∙ mine-at home home-mine) (omega (arith, h.below, at-k))
        (sym (ap (λ (y : Seat). y.spot) h.is) ∙ ap (spot_at q.own) (sym at-k))

    -- what is earlier is there too, at a lower position
    mine-first : (y : Seat) → Sits q y → earlier q y x ≡ true → same (f y.spot) key ≡ false
    mine-first y s e =
        by (eqb y.place x.place)
        (λ t. let here = eqb-true _ _ t in
        let low = in-one-place q y x e here in
        ap (λ (w : Spot). same (f w) key)
        (s.spot ∙ ap (λ (m : List Spot). spot_at m y.position) (ap (sectors_at q) (here ∙ at_home) ∙ mine-at home home-mine))
        ∙ h.before y.position (omega (arith, low, at-k)))
        (λ t. let own = before-mine q y x e (eqb-false _ _ t) (ap (is_mine q) at_home ∙ home-mine) in
        absurd (eqb-false _ _ t (apt.one y.place home own home-mine ∙ sym at_home)))

  -- ---- in another place

  module _ (x : Seat) (none : (j : ℕ) → j < length q.own → same (f (spot_at q.own j)) key ≡ false) (t : There f key z q.mine 0 q.places x) where
    at-m : x.place ≡ t.m
    at-m = let e = ap (λ (y : Seat). y.place) t.here.is in omega (arith, e)

    at_position : x.position ≡ t.here.k
    at_position = let e = ap (λ (y : Seat). y.position) t.here.is in omega (arith, e)

    other-here : is_mine q x.place ≡ false
    other-here = ap (is_mine q) at-m ∙ t.other

    sectors-here : sectors_at q x.place ≡ committed_spots z (place t.m)
    sectors-here = ap (sectors_at q) at-m ∙ other_at t.m t.other

    other-sits : Sits q x
    other-sits =
        sits-in x sectors-here (omega (arith, t.here.below, at_position))
        (sym (ap (λ (y : Seat). y.spot) t.here.is) ∙ ap (spot_at (committed_spots z (place t.m))) (sym at_position))

    other-first : (y : Seat) → Sits q y → earlier q y x ≡ true → same (f y.spot) key ≡ false
    other-first y s e =
        by (is_mine q y.place)
        (λ u. misses-in y s (mine-at y.place u) none)
        (λ u. by (eqb y.place x.place)
        (λ v. let here = eqb-true _ _ v in
        let low = in-one-place q y x e here in
        ap (λ (w : Spot). same (f w) key) (s.spot ∙ ap (λ (m : List Spot). spot_at m y.position) (ap (sectors_at q) here ∙ sectors-here))
        ∙ t.here.before y.position (omega (arith, low, at_position)))
        (λ v. let low = before-other q y x e (eqb-false _ _ v) u in
        misses-in y s (other_at y.place u) (t.past y.place (omega (arith, low, at-m)) u)))

  -- ---- all of it

  pub finds : Finds q f key (first_seat f key (seats z q.mine q.own q.places))
  unfolding seats or_else
  finds =
      let whole = first-both f key (seated home 0 q.own) (committed_seats z q.mine 0 q.places) in
      record {
        found = λ x e. cases fore
            (λ y u. let here = seated-at f key home 0 q.own x (u ∙ sym (ap (λ (r : Option Seat). or_else r aft) u) ∙ sym whole ∙ e) in
            record { sits = mine-sits x here; root = sought-root f key _ x e; first = mine-first x here })
            (λ u. let none = seated-none f key home 0 q.own u in
            let there = committed-at f key z q.mine 0 q.places x (sym (ap (λ (r : Option Seat). or_else r aft) u) ∙ sym whole ∙ e) in
            record { sits = other-sits x none there; root = sought-root f key _ x e; first = other-first x none there });
        nowhere = λ e y s. cases fore
            (λ x u. nowhere-at (sym e ∙ whole ∙ ap (λ (r : Option Seat). or_else r aft) u))
            (λ u. by (is_mine q y.place)
            (λ v. misses-in y s (mine-at y.place v) (seated-none f key home 0 q.own u))
            (λ v. misses-in y s (other_at y.place v)
            (committed-none f key z q.mine 0 q.places (sym (ap (λ (r : Option Seat). or_else r aft) u) ∙ sym whole ∙ e) y.place (there-is y s v) v)));
      }

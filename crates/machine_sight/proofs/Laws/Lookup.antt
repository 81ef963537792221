-- One turn of the loops that look for a root: along the positions of what is seen of a contract, and along the places. f reads roots; z is the
-- sector size. Assumes nothing.
use Rattle.lists.proofs.Kit.{◌≡◌, refl, sym, ap, ◌∙◌, Bool, true, false, List, [], ◌∷◌, ◌++◌, ℕ, zero, suc, ◌+◌, ◌-◌, ◌≤◌, ◌<◌, zero-div, arith, length}
use Rattle.lists.proofs.Kit.{get_or, slice}
use native.Mathlib.Numerals.{add-one}
use Rattle.lists.specs.Pick.{pick}
use Rattle.lists.specs.Tests.{every, first_of}
use Rattle.lists.specs.Tab.{tab}
use Rattle.lists.proofs.Laws.Pick.{never}
use Rattle.lists.proofs.Laws.Every.{every_get, every-fore, every-aft}
use Rattle.lists.proofs.Laws.Slices.{slice-one, slice-none}
use Rattle.area.specs.Area.{same}
use Rattle.sia.specs.Names.{read_only}
use Rattle.sia.specs.Encode.{joined}
use Rattle.host.specs.Places.{has_id, whose, committed, taken}
use Rattle.host.specs.Order.{place_in_order}
use Rattle.host.proofs.Laws.Places.{blank}
use Rattle.machine_rules.specs.View.{spot_of, committed_spots}
use Rattle.machine_rules.specs.Seats.{seated, committed_seats, seats, all_seats, first_seat}
use Rattle.machine_rules.proofs.Laws.Found.{first-here, first-further, first-none, first-both, or_else}
use Rattle.machine_rules.proofs.Laws.Homes.{seats-of-all}
use Rattle.machine_rules.proofs.Laws.Spots.{disk-every}
use Rattle.machine_sight.specs.Seen.{spots_of, holds, lies, Known}
use Rattle.host.specs.declared.Place.{Place}
use Rattle.machine_rules.specs.declared.Spot.{Spot}
use Rattle.machine_rules.specs.declared.Seat.{Seat}
use Rattle.std.specs.Prelude.{Option, Some, None, is_some}
use Rattle.machine_sight.specs.declared.Seen.{Seen}
use Rattle.machine_sight.specs.Lookup.{Stands, Stand, own_spots, Seeks}

-- ---- found here, or else behind

pub found_first : (r s : Option Seat) → is_some r ≡ true → r ≡ or_else r s
unfolding or_else
found_first (Some x) s e = refl
found_first None s e = never (sym e)

pub found-second : (r s : Option Seat) → is_some r ≡ false → s ≡ or_else r s
unfolding or_else
found-second (Some x) s e = never e
found-second None s e = refl

-- ---- positions: i and those behind it are left, of n

pub position-all : (f : Spot → List ℕ) (key : List ℕ) (place : ℕ) (g : ℕ → Spot) (n : ℕ)
    → first_seat f key (seated place 0 (tab 0 n g)) ≡ first_seat f key (seated place 0 (tab 0 (n - 0) g))
position-all f key place g n = let q : n ≡ n - 0 = omega arith in ap (λ (k : ℕ). first_seat f key (seated place 0 (tab 0 k g))) q

module _ (f : Spot → List ℕ) (key : List ℕ) (place : ℕ) (g : ℕ → Spot) (n i : ℕ) where
  abbrev pub behind : List Seat
  behind = seated place i (tab i (n - i) g)

  one_left : i < n → behind ≡ seated place i (tab i (suc (n - (i + 1))) g)
  one_left h = let q : n - i ≡ suc (n - (i + 1)) = omega arith in ap (λ (k : ℕ). seated place i (tab i k g)) q

  abbrev here : Seat
  here = record { place = place; position = i; spot = g i }

  pub position_here : i < n → same (f (g i)) key ≡ true → Some here ≡ first_seat f key behind
  unfolding seated tab
  position_here h e = sym (ap (first_seat f key) (one_left h) ∙ first-here f key here (seated place (suc i) (tab (suc i) (n - (i + 1)) g)) e)

  pub position-further : i < n → same (f (g i)) key ≡ false
      → first_seat f key behind ≡ first_seat f key (seated place (i + 1) (tab (i + 1) (n - (i + 1)) g))
  unfolding seated tab
  position-further h e =
      ap (first_seat f key) (one_left h)
      ∙ first-further f key here (seated place (suc i) (tab (suc i) (n - (i + 1)) g)) e
      ∙ ap (λ (k : ℕ). first_seat f key (seated place k (tab k (n - (i + 1)) g))) (sym (add-one i))

  pub position-none : n ≤ i → None ≡ first_seat f key behind
  unfolding seated tab
  position-none h =
      let q : n - i ≡ 0 = omega arith in
      sym (ap (λ (k : ℕ). first_seat f key (seated place i (tab i k g))) q ∙ first-none f key)

-- ---- places: the i-th and those behind it are left, of n

module _ (f : Spot → List ℕ) (key : List ℕ) (z : ℕ) (out : Place → Bool) (l : List Place) (i n : ℕ) (long : length l ≡ n) where
  abbrev pub own : List Seat
  own = pick (out (get_or l i blank)) [] (seated i 0 (committed_spots z (get_or l i blank)))

  abbrev pub left : List Seat
  left = committed_seats z out i (slice i n l)

  left_is : i < n → first_seat f key left ≡ or_else (first_seat f key own) (first_seat f key (committed_seats z out (i + 1) (slice (i + 1) n l)))
  unfolding committed_seats
  left_is h =
      ap (λ (m : List Place). first_seat f key (committed_seats z out i m)) (slice-one l i n blank long h (omega arith))
      ∙ ap (λ (k : ℕ). first_seat f key (own ++ committed_seats z out k (slice (i + 1) n l))) (sym (add-one i))
      ∙ first-both f key own (committed_seats z out (i + 1) (slice (i + 1) n l))

  module _ {r : Option Seat} (e : r ≡ first_seat f key own) where
    pub place_here : i < n → is_some r ≡ true → r ≡ first_seat f key left
    place_here h q =
        found_first r _ q ∙ ap (λ (s : Option Seat). or_else s (first_seat f key (committed_seats z out (i + 1) (slice (i + 1) n l)))) e ∙ sym (left_is h)

    pub place-further : i < n → is_some r ≡ false → first_seat f key left ≡ first_seat f key (committed_seats z out (i + 1) (slice (i + 1) n l))
    place-further h q =
        left_is h ∙ sym (found-second r _ q ∙ ap (λ (s : Option Seat). or_else s (first_seat f key (committed_seats z out (i + 1) (slice (i + 1) n l)))) e)

  pub place_none : n ≤ i → None ≡ first_seat f key left
  unfolding committed_seats
  place_none h = sym (ap (λ (m : List Place). first_seat f key (committed_seats z out i m)) (slice-none l i n h) ∙ first-none f key)

-- ---- the sectors of one place, and then the others

module _ (f : Spot → List ℕ) (key : List ℕ) (z : ℕ) (mine : Place → Bool) (own : List Spot) (ps : List Place) where
  abbrev first : Option Seat
  first = first_seat f key (seated (first_of mine ps) 0 own)

  abbrev rest : Option Seat
  rest = first_seat f key (committed_seats z mine 0 ps)

  whole : first_seat f key (seats z mine own ps) ≡ or_else first rest
  unfolding seats
  whole = first-both f key (seated (first_of mine ps) 0 own) (committed_seats z mine 0 ps)

  module _ {r : Option Seat} (e : r ≡ first) where
    pub own-found : is_some r ≡ true → r ≡ first_seat f key (seats z mine own ps)
    own-found q = found_first r rest q ∙ ap (λ (x : Option Seat). or_else x rest) e ∙ sym whole

    pub other-found : is_some r ≡ false → {s : Option Seat} → s ≡ rest → s ≡ first_seat f key (seats z mine own ps)
    other-found q d = d ∙ found-second r rest q ∙ ap (λ (x : Option Seat). or_else x rest) e ∙ sym whole

-- ---- what is asked of one place, from what is asked of all

taken_at : (p : ℕ → Bool) (z : ℕ) (l : List Place) (i : ℕ) (d : Place) → i < length l → every p (taken z l) ≡ true
    → every p (committed z (get_or l i d)) ≡ true
unfolding taken joined
taken_at p z [] i d h e = absurd (omega arith)
taken_at p z (q ∷ l) zero d h e = every-fore p (committed z q) (taken z l) e
taken_at p z (q ∷ l) (suc i) d h e = taken_at p z l i d (omega arith) (every-aft p (committed z q) (taken z l) e)

pub stands_at : (z : ℕ) (diskroots : List ℕ) (l : List Place) (i : ℕ) (d : Place) → i < length l → Stand z diskroots l
    → Stands z diskroots (get_or l i d)
stands_at z diskroots l i d h s = record {
  size = s.size;
  order = every_get (place_in_order z) l i d h s.order;
  slots = taken_at (holds 32 diskroots) z l i d h s.slots;
}

-- ---- no parent: of size 0 nothing is its own, and under the ReadOnly word there is no contract

module _ (z : ℕ) (diskroots : List ℕ) (ps : List Place) (s : Stand z diskroots ps) (staged : List ℕ) where
  none-own : (id : List ℕ) → own_spots z ps id staged 0 ≡ []
  unfolding tab
  none-own id = ap (λ (n : ℕ). tab 0 n (spot_of (whose id ps).slots staged)) (zero-div z)

  pub seeks-none : (stageroots id : List ℕ) → Seeks z diskroots stageroots ps id staged 0
  unfolding every
  seeks-none stageroots id = let none = zero-div z in record {
    few = omega (arith, none);
    own = ap (every (lies 32 diskroots stageroots)) (none-own id);
    stand = s;
  }

  pub seats-none : seats z (has_id read_only) (own_spots z ps read_only staged 0) ps ≡ all_seats z ps
  seats-none = ap (λ (own : List Spot). seats z (has_id read_only) own ps) (none-own read_only) ∙ seats-of-all z ps s.order

-- a root is kept beside all that is seen of a contract that stands
pub committed-known : (z : ℕ) (diskroots stageroots : List ℕ) (p : Place) (v : Seen) → spots_of v ≡ committed_spots z p → v.count ≤ 64
    → Stands z diskroots p → Known diskroots stageroots v
unfolding committed_spots lies
committed-known z diskroots stageroots p v e few s = record {
  few = few;
  spots = ap (every (lies 32 diskroots stageroots)) e ∙ disk-every (lies 32 diskroots stageroots) (committed z p) s.slots;
}

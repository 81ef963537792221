-- What a look-up in any list of seats finds. Assumes nothing.
use Rattle.lists.proofs.Kit.{◌≡◌, refl, sym, ap, ◌∙◌, Bool, true, false, List, [], ◌∷◌, ◌++◌, ℕ, get_or}
use Rattle.lists.proofs.Laws.Pick.{by, picks, skips, never}
use Rattle.area.specs.Area.{same}
use Rattle.area.proofs.Laws.Same.{same-eq}
use Rattle.machine_rules.specs.declared.Setting.{Setting}
use Rattle.machine_rules.specs.Seats.{seats_of, first_seat}
use Rattle.machine_rules.specs.Plan.{Source, seen, is_there, spots, sought_source, sector_source}
use Rattle.host.specs.declared.Progress.{Progress}
use Rattle.machine_rules.specs.declared.Spot.{Spot}
use Rattle.machine_rules.specs.declared.Seat.{Seat}
use Rattle.std.specs.Prelude.{Option, Some, None}

-- ---- found or not

unfoldable is_at : Option Seat → Bool
is_at (Some x) = true
is_at None = false

unfoldable seat_in : Seat → Option Seat → Seat
seat_in d (Some x) = x
seat_in d None = d

pub nowhere-at : {C : Type 0} {x : Seat} → None ≡ Some x → C
unfolding is_at
nowhere-at e = never (sym (ap is_at e))

pub at_same : {x y : Seat} → Some x ≡ Some y → x ≡ y
unfolding seat_in
at_same {x} e = ap (seat_in x) e

pub cases : {C : Type 0} (r : Option Seat) → ((x : Seat) → r ≡ Some x → C) → (r ≡ None → C) → C
cases (Some x) f g = f x refl
cases None f g = g refl

-- the one, or else the other
unfoldable pub or_else : Option Seat → Option Seat → Option Seat
or_else (Some x) r = Some x
or_else None r = r

-- ---- in any list

module _ (f : Spot → List ℕ) (key : List ℕ) where
  pub first-here : (x : Seat) (l : List Seat) → same (f x.spot) key ≡ true → first_seat f key (x ∷ l) ≡ Some x
  unfolding first_seat
  first-here x l e = picks (same (f x.spot) key) (Some x) (first_seat f key l) e

  pub first-further : (x : Seat) (l : List Seat) → same (f x.spot) key ≡ false → first_seat f key (x ∷ l) ≡ first_seat f key l
  unfolding first_seat
  first-further x l e = skips (same (f x.spot) key) (Some x) (first_seat f key l) e

  pub first-none : first_seat f key [] ≡ None
  unfolding first_seat
  first-none = refl

  -- in one list, or else in another
  pub first-both : (l m : List Seat) → first_seat f key (l ++ m) ≡ or_else (first_seat f key l) (first_seat f key m)
  unfolding first_seat or_else
  first-both [] m = refl
  first-both (x ∷ l) m =
      by (same (f x.spot) key)
      (λ e. first-here x (l ++ m) e ∙ ap (λ (r : Option Seat). or_else r (first_seat f key m)) (sym (first-here x l e)))
      (λ e. first-further x (l ++ m) e ∙ first-both l m ∙ ap (λ (r : Option Seat). or_else r (first_seat f key m)) (sym (first-further x l e)))

-- "Contract ids and sector roots are compared on all 32 bytes."
pub sought-root : (f : Spot → List ℕ) (key : List ℕ) (l : List Seat) (x : Seat) → first_seat f key l ≡ Some x → f x.spot ≡ key
sought-root f key [] x e = nowhere-at (sym (first-none f key) ∙ e)
sought-root f key (y ∷ l) x e =
    by (same (f y.spot) key)
    (λ t. ap (λ (z : Seat). f z.spot) (sym (at_same (sym (first-here f key y l t) ∙ e))) ∙ same-eq _ _ t)
    (λ t. sought-root f key l x (sym (first-further f key y l t) ∙ e))

-- the sector that ReadSector reads has the root
pub source-root : (s : Setting) (f : Spot → List ℕ) (p : Progress) (key : List ℕ) (x : Spot) → sector_source s f p key ≡ seen (x ∷ [])
    → f x ≡ key
unfolding sector_source sought_source is_there spots
source-root s f p key x e =
    cases (first_seat f key (seats_of s p))
    (λ y q. let one = sym (ap sought_source q) ∙ e in
    sym (ap (λ (from : Source). f (get_or (spots from) 0 x)) one) ∙ sought-root f key (seats_of s p) y q)
    (λ q. never (sym (ap is_there (sym (ap sought_source q) ∙ e))))

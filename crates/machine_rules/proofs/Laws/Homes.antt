-- The parent of a host in order is in one place, the first that has its id; in read-only mode, and with no program, no contract is the parent.
-- z is the sector size. Assumes nothing.
use Rattle.lists.proofs.Kit.{◌≡◌, refl, sym, ap, ap₂, ◌∙◌, Bool, true, false, not, List, [], ◌∷◌, ◌++◌, ℕ, zero, suc, arith, get_or, not-true}
use Rattle.lists.specs.Pick.{pick}
use Rattle.lists.specs.Tests.{every, apart, first_of}
use Rattle.lists.proofs.Laws.Pick.{by, picks, skips, never, both_left, both_right, second-not}
use Rattle.lists.proofs.Laws.Every.{every-at}
use Rattle.lists.proofs.Laws.Apart.{tail_apart}
use Rattle.area.specs.Area.{same}
use Rattle.sia.specs.Names.{read_only}
use Rattle.host.specs.Empty.{no_place}
use Rattle.host.specs.Places.{has_id, whose}
use Rattle.host.specs.Order.{place_in_order, twins}
use Rattle.host.proofs.Laws.Whose.{no-id}
use Rattle.machine_rules.specs.View.{committed_spots}
use Rattle.machine_rules.specs.declared.Setting.{Setting}
use Rattle.machine_rules.specs.Seats.{seated, committed_seats, seats, nobody, all_seats}
use Rattle.machine_rules.specs.StageFirst.{writing, reading}
use Rattle.machine_rules.proofs.Laws.Earlier.{Apart}
use Rattle.machine_rules.proofs.Laws.Split.{none_has}
use Rattle.host.specs.declared.Place.{Place}
use Rattle.host.specs.declared.Progress.{Progress}
use Rattle.machine_rules.specs.declared.Seat.{Seat}

-- ---- one place

-- no other place has the id
no_other : (id : List ℕ) (p : Place) (ps : List Place) (j : ℕ) → apart twins (p ∷ ps) ≡ true → has_id id p ≡ true
    → has_id id (get_or ps j no_place) ≡ false
no_other id p ps j a e =
    not-true _ (every-at (λ q. not (has_id id q)) ps j no_place (none_has id p ps e (tail_apart twins p ps a).0) (ap not (no-id id)))

one_place : (id : List ℕ) (ps : List Place) → apart twins ps ≡ true → (i j : ℕ)
    → has_id id (get_or ps i no_place) ≡ true → has_id id (get_or ps j no_place) ≡ true → i ≡ j
one_place id [] a i j u v = never (sym u ∙ no-id id)
one_place id (p ∷ ps) a zero zero u v = refl
one_place id (p ∷ ps) a zero (suc j) u v = never (sym v ∙ no_other id p ps j a u)
one_place id (p ∷ ps) a (suc i) zero u v = never (sym u ∙ no_other id p ps i a v)
one_place id (p ∷ ps) a (suc i) (suc j) u v = ap suc (one_place id ps (tail_apart twins p ps a).1 i j u v)

-- the first that has it
pub first-place : (id : List ℕ) (ps : List Place) → (whose id ps).held ≡ true → has_id id (get_or ps (first_of (has_id id) ps) no_place) ≡ true
unfolding whose first_of no_place
first-place id [] h = never (sym h)
first-place id (p ∷ ps) h =
    by (has_id id p)
    (λ e. ap (λ (n : ℕ). has_id id (get_or (p ∷ ps) n no_place)) (picks (has_id id p) 0 (suc (first_of (has_id id) ps)) e) ∙ e)
    (λ e. ap (λ (n : ℕ). has_id id (get_or (p ∷ ps) n no_place)) (skips (has_id id p) 0 (suc (first_of (has_id id) ps)) e)
    ∙ first-place id ps (sym (ap (λ (q : Place). q.held) (skips (has_id id p) p (whose id ps) e)) ∙ h))

pub apart-reading : (z : ℕ) (ps : List Place) → Apart (reading z ps)
unfolding nobody
apart-reading z ps = record { one = λ i j u v. never (sym u); there = λ h. absurd (omega arith) }

pub apart-writing : (s : Setting) (p : Progress) → apart twins s.places ≡ true
    → (whose s.terms.head.contract s.places).held ≡ true → Apart (writing s p)
apart-writing s p a held = record {
  one = one_place s.terms.head.contract s.places a;
  there = λ h. first-place s.terms.head.contract s.places held;
}

-- ---- in read-only mode, and with no program, nobody is the parent

-- no contract in order is under the ReadOnly word
not-read-only : (z : ℕ) (p : Place) → place_in_order z p ≡ true → has_id read_only p ≡ false
unfolding place_in_order has_id
not-read-only z p o =
    by p.held
    (λ e. picks p.held (same p.id read_only) false e ∙ not-true _ (both_left _ _ (second-not p.held _ o e)))
    (λ e. skips p.held (same p.id read_only) false e)

none-left-out : (z i : ℕ) (ps : List Place) → every (place_in_order z) ps ≡ true
    → committed_seats z (has_id read_only) i ps ≡ committed_seats z nobody i ps
unfolding committed_seats nobody every
none-left-out z i [] h = refl
none-left-out z i (p ∷ ps) h =
    ap₂ (λ (b : Bool) (l : List Seat). pick b [] (seated i 0 (committed_spots z p)) ++ l) (not-read-only z p (both_left _ _ h))
    (none-left-out z (suc i) ps (both_right _ _ h))

pub seats-of-all : (z : ℕ) (ps : List Place) → every (place_in_order z) ps ≡ true → seats z (has_id read_only) [] ps ≡ all_seats z ps
unfolding seats seated
seats-of-all z ps h = none-left-out z 0 ps h

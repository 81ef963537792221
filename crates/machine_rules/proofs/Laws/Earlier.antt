-- The first of a search, and the order of seats in it. Assumes nothing.
use Rattle.lists.proofs.Kit.{◌≡◌, refl, sym, ◌∙◌, Bool, true, false, not, List, [], ◌∷◌, ℕ, zero, suc, ◌≤◌, ◌<◌, arith, length, get_or, ltb, eqb}
use Rattle.lists.proofs.Kit.{eq-eqb, ne_eqb, ltb-true}
use Rattle.lists.specs.Pick.{pick, both, either}
use Rattle.lists.specs.Tests.{each, first_of}
use Rattle.lists.proofs.Laws.Pick.{picks, skips, never}
use Rattle.host.specs.Empty.{no_place}
use Rattle.host.specs.Places.{committed}
use Rattle.machine_rules.specs.View.{committed_spots}
use Rattle.machine_rules.specs.StageFirst.{Search, is_mine, earlier}
use Rattle.host.specs.declared.Place.{Place}
use Rattle.machine_rules.specs.declared.Seat.{Seat}

-- ---- the first, of any search in which at most one place is mine

-- at most one place is mine, and there is one if it has sectors
pub record Apart (q : Search) : Type 0 where
  pub one : (i j : ℕ) → is_mine q i ≡ true → is_mine q j ≡ true → i ≡ j
  pub there : 0 < length q.own → is_mine q (first_of q.mine q.places) ≡ true

pub no-sectors : (z : ℕ) → length (committed_spots z no_place) ≡ 0
unfolding committed_spots committed no_place each pick
no-sectors z = refl

pub past_end_lem : (ps : List Place) (i : ℕ) → length ps ≤ i → get_or ps i no_place ≡ no_place
past_end_lem [] i h = refl
past_end_lem (p ∷ ps) zero h = absurd (omega arith)
past_end_lem (p ∷ ps) (suc i) h = past_end_lem ps i (omega arith)

-- ---- the order

or-first : (a b c : Bool) → b ≡ true → either a (both (not b) c) ≡ true → a ≡ true
unfolding pick
or-first true b c u v = refl
or-first false true c u v = v
or-first false false c u v = never (sym u)

or-last : (a b c : Bool) → a ≡ false → either a (both (not b) c) ≡ true → c ≡ true
unfolding pick
or-last true b c u v = never u
or-last false true c u v = never (sym v)
or-last false false c u v = v

module _ (q : Search) (x y : Seat) (e : earlier q x y ≡ true) where
  abbrev elsewhere : Bool
  elsewhere = either (is_mine q x.place) (both (not (is_mine q y.place)) (ltb x.place y.place))

  -- in one place by position
  pub in-one-place : x.place ≡ y.place → x.position < y.position
  unfolding earlier
  in-one-place h =
      let t = eq-eqb x.place y.place h in
      ltb-true x.position y.position (sym (picks (eqb x.place y.place) (ltb x.position y.position) elsewhere t) ∙ e)

  module _ (h : x.place ≡ y.place → ⊥) where
    apart-is : elsewhere ≡ true
    unfolding earlier
    apart-is =
        let t = ne_eqb x.place y.place h in
        sym (skips (eqb x.place y.place) (ltb x.position y.position) elsewhere t) ∙ e

    -- before what is mine comes only what is mine
    pub before-mine : is_mine q y.place ≡ true → is_mine q x.place ≡ true
    before-mine u = or-first (is_mine q x.place) (is_mine q y.place) _ u apart-is

    -- of the others, by place
    pub before-other : is_mine q x.place ≡ false → x.place < y.place
    before-other u = ltb-true x.place y.place (or-last (is_mine q x.place) (is_mine q y.place) _ u apart-is)

-- The look-up by root in a list of sectors: what is found has the root, and is the first that has it. f reads roots. Assumes nothing.
use Rattle.lists.proofs.Kit.{◌≡◌, sym, ap, ◌∙◌, subst, Bool, false, List, [], ◌∷◌, ℕ, zero, suc, ◌+◌, ◌<◌, arith, length, get_or}
use Rattle.lists.specs.Pick.{pick}
use Rattle.lists.proofs.Laws.Pick.{by, picks, skips}
use Rattle.area.specs.Area.{same}
use Rattle.host.specs.Empty.{no_place}
use Rattle.machine_rules.specs.View.{committed_spots}
use Rattle.machine_rules.specs.Seats.{seated, committed_seats, first_seat}
use Rattle.host.specs.declared.Place.{Place}
use Rattle.machine_rules.specs.declared.Spot.{Spot}
use Rattle.machine_rules.specs.declared.Spot.TheVariants.{OnDisk}
use Rattle.machine_rules.specs.declared.Seat.{Seat}
use Rattle.std.specs.Prelude.{Option, Some, None}
use Rattle.machine_rules.proofs.Laws.Found.{nowhere-at, at_same, cases, or_else, first-here, first-further, first-none, first-both}

-- ---- among the sectors of one place

abbrev pub spot_at : List Spot → ℕ → Spot
spot_at l j = get_or l j (OnDisk 0)

module _ (f : Spot → List ℕ) (key : List ℕ) where
  abbrev pub Misses : List Spot → ℕ → Type 0
  Misses l j = same (f (spot_at l j)) key ≡ false

  -- the k-th, and none before it
  pub record Here (i at : ℕ) (l : List Spot) (x : Seat) : Type 0 where
    pub k : ℕ
    pub is : record { place = i; position = at + k; spot = spot_at l k } ≡ x
    pub below : k < length l
    pub before : (j : ℕ) → j < k → Misses l j

  pub seated-at : (i at : ℕ) (l : List Spot) (x : Seat) → first_seat f key (seated i at l) ≡ Some x → Here i at l x
  unfolding seated
  seated-at i at [] x e = nowhere-at (sym (first-none f key) ∙ e)
  seated-at i at (y ∷ l) x e =
      by (same (f y) key)
      (λ t. record {
        k = 0;
        is = (λ n. record { place = i; position = (let q : at + 0 ≡ at = omega arith in q n); spot = y })
            ∙ at_same (sym (first-here f key (record { place = i; position = at; spot = y }) (seated i (suc at) l) t) ∙ e);
        below = omega arith;
        before = λ j h. absurd (omega arith);
      })
      (λ t. let r = seated-at i (suc at) l x (sym (first-further f key (record { place = i; position = at; spot = y }) (seated i (suc at) l) t) ∙ e) in
      record {
        k = suc r.k;
        is = (λ n. record { place = i; position = (let q : at + suc r.k ≡ suc at + r.k = omega arith in q n); spot = spot_at l r.k }) ∙ r.is;
        below = omega (arith, r.below);
        before = missed y l t r.k r.before;
      })
    where
      missed : (y : Spot) (l : List Spot) → same (f y) key ≡ false → (k : ℕ) → ((j : ℕ) → j < k → Misses l j) → (j : ℕ) → j < suc k → Misses (y ∷ l) j
      missed y l t k g zero h = t
      missed y l t k g (suc j) h = g j (omega arith)

  pub seated-none : (i at : ℕ) (l : List Spot) → first_seat f key (seated i at l) ≡ None → (j : ℕ) → j < length l → Misses l j
  unfolding seated
  seated-none i at [] e j h = absurd (omega arith)
  seated-none i at (y ∷ l) e zero h =
      by (same (f y) key)
      (λ t. nowhere-at (sym e ∙ first-here f key (record { place = i; position = at; spot = y }) (seated i (suc at) l) t))
      (λ t. t)
  seated-none i at (y ∷ l) e (suc j) h =
      by (same (f y) key)
      (λ t. nowhere-at (sym e ∙ first-here f key (record { place = i; position = at; spot = y }) (seated i (suc at) l) t))
      (λ t. seated-none i (suc at) l (sym (first-further f key (record { place = i; position = at; spot = y }) (seated i (suc at) l) t) ∙ e) j (omega arith))

-- ---- among the committed sectors, place by place

module _ (f : Spot → List ℕ) (key : List ℕ) (z : ℕ) (mine : Place → Bool) where
  abbrev pub place_at : List Place → ℕ → Place
  place_at ps n = get_or ps n no_place

  -- none of the sectors of the n-th place has the root
  abbrev pub Passed : List Place → ℕ → Type 0
  Passed ps n = mine (place_at ps n) ≡ false → (j : ℕ) → j < length (committed_spots z (place_at ps n)) → Misses f key (committed_spots z (place_at ps n)) j

  -- in the m-th place, and in none before it
  pub record There (i : ℕ) (ps : List Place) (x : Seat) : Type 0 where
    pub m : ℕ
    pub within : m < length ps
    pub other : mine (place_at ps m) ≡ false
    pub here : Here f key (i + m) 0 (committed_spots z (place_at ps m)) x
    pub past : (n : ℕ) → n < m → Passed ps n

  next : (p : Place) (ps : List Place) (m : ℕ) → Passed (p ∷ ps) 0 → ((n : ℕ) → n < m → Passed ps n) → (n : ℕ) → n < suc m → Passed (p ∷ ps) n
  next p ps m first rest zero h = first
  next p ps m first rest (suc n) h = rest n (omega arith)

  further : (i : ℕ) (p : Place) (ps : List Place) (x : Seat) → Passed (p ∷ ps) 0 → There (suc i) ps x → There i (p ∷ ps) x
  further i p ps x first t =
      let q : suc i + t.m ≡ i + suc t.m = omega arith in
      record {
        m = suc t.m;
        within = omega (arith, t.within);
        other = t.other;
        here = subst (λ (n : ℕ). Here f key n 0 (committed_spots z (place_at ps t.m)) x) q t.here;
        past = next p ps t.m first t.past;
      }

  abbrev own : ℕ → Place → Option Seat
  own i p = first_seat f key (pick (mine p) [] (seated i 0 (committed_spots z p)))

  -- one place and those behind it
  one_more : (i : ℕ) (p : Place) (ps : List Place)
      → first_seat f key (committed_seats z mine i (p ∷ ps)) ≡ or_else (own i p) (first_seat f key (committed_seats z mine (suc i) ps))
  unfolding committed_seats
  one_more i p ps = first-both f key (pick (mine p) [] (seated i 0 (committed_spots z p))) (committed_seats z mine (suc i) ps)

  own_at : (i : ℕ) (p : Place) (x : Seat) → own i p ≡ Some x → (mine p ≡ false) × Here f key i 0 (committed_spots z p) x
  own_at i p x e =
      by (mine p)
      (λ t. nowhere-at (sym (ap (first_seat f key) (picks (mine p) [] (seated i 0 (committed_spots z p)) t) ∙ first-none f key) ∙ e))
      (λ t. (t, seated-at f key i 0 (committed_spots z p) x (sym (ap (first_seat f key) (skips (mine p) [] (seated i 0 (committed_spots z p)) t)) ∙ e)))

  own-none : (i : ℕ) (p : Place) (ps : List Place) → own i p ≡ None → Passed (p ∷ ps) 0
  own-none i p ps e t j h =
      seated-none f key i 0 (committed_spots z p) (sym (ap (first_seat f key) (skips (mine p) [] (seated i 0 (committed_spots z p)) t)) ∙ e) j h

  pub committed-at : (i : ℕ) (ps : List Place) (x : Seat) → first_seat f key (committed_seats z mine i ps) ≡ Some x → There i ps x
  unfolding committed_seats or_else
  committed-at i [] x e = nowhere-at (sym (first-none f key) ∙ e)
  committed-at i (p ∷ ps) x e =
      let rest = first_seat f key (committed_seats z mine (suc i) ps) in
      let r = sym (one_more i p ps) ∙ e in
      cases (own i p)
      (λ y q. let found = own_at i p x (q ∙ sym (ap (λ (o : Option Seat). or_else o rest) q) ∙ r) in
      let here : i ≡ i + 0 = omega arith in
      record {
        m = 0;
        within = omega arith;
        other = found.0;
        here = subst (λ (n : ℕ). Here f key n 0 (committed_spots z p) x) here found.1;
        past = λ n h. absurd (omega arith);
      })
      (λ q. further i p ps x (own-none i p ps q) (committed-at (suc i) ps x (sym (ap (λ (o : Option Seat). or_else o rest) q) ∙ r)))

  pub committed-none : (i : ℕ) (ps : List Place) → first_seat f key (committed_seats z mine i ps) ≡ None → (n : ℕ) → n < length ps → Passed ps n
  unfolding committed_seats or_else
  committed-none i [] e n h = absurd (omega arith)
  committed-none i (p ∷ ps) e n h =
      let rest = first_seat f key (committed_seats z mine (suc i) ps) in
      let r = sym (one_more i p ps) ∙ e in
      cases (own i p)
      (λ y q. nowhere-at (sym r ∙ ap (λ (o : Option Seat). or_else o rest) q))
      (λ q. next p ps (length ps) (own-none i p ps q)
      (λ k l. committed-none (suc i) ps (sym (ap (λ (o : Option Seat). or_else o rest) q) ∙ r) k l) n h)

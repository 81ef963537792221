-- What is seen lies in slots that there are, at most 64 sectors. Assumes nothing.
use Rattle.lists.proofs.Kit.{◌≡◌, refl, sym, ap, ◌∙◌, subst, Bool, true, false, not, List, [], ◌∷◌, ℕ, suc, ◌+◌, ◌-◌, ◌/◌, ◌≤◌, ◌<◌, zero-div, arith}
use Rattle.lists.proofs.Kit.{length, take, drop, get_or, length-drop, get_or-take, get_or-drop, length-take-le, ltb, eqb, not-true}
use Rattle.lists.proofs.Kit.{ltb-true, ltb-false, lt-ltb}
use Rattle.lists.specs.Pick.{pick}
use Rattle.lists.specs.Tests.{every, each}
use Rattle.lists.proofs.Laws.Pick.{by, picks, skips, never, both_left, both_right, both-join, either_second}
use Rattle.lists.proofs.Laws.Tab.{every-tab}
use Rattle.lists.proofs.Laws.Every.{every-at, every_get, every-fore, every-aft, every-pick, every_append, every-none}
use Rattle.area.specs.Area.{same}
use Rattle.sia.specs.Encode.{joined}
use Rattle.host.specs.Empty.{none, no_place}
use Rattle.host.specs.Places.{has_id, whose, committed, taken}
use Rattle.host.specs.Order.{slot_in_order}
use Rattle.host.specs.Facts.{Staged}
use Rattle.host.proofs.Laws.Whose.{has-held, committed-held}
use Rattle.machine_rules.specs.View.{read_only_mode, parent, spot_of, parent_spots, committed_spots, Volume}
use Rattle.machine_rules.specs.declared.Setting.{Setting}
use Rattle.machine_rules.specs.Seats.{seated, committed_seats, seats, seats_of, first_seat}
use Rattle.machine_rules.specs.Plan.{Source, missing, seen, spots, contract_source, sought_source, sector_source, source_of}
use Rattle.machine_rules.specs.Facts.{Solid, start_of, valid}
use Rattle.machine_rules.proofs.Laws.Staged.{slot-none}
use Rattle.sia.specs.declared.Op.{Op}
use Rattle.sia.specs.declared.Op.TheVariants.{Read, ReadSector, Write, Copy, Swap, Truncate, Unknown}
use Rattle.host.specs.declared.Place.{Place}
use Rattle.host.specs.declared.Progress.{Progress}
use Rattle.machine_rules.specs.declared.Spot.{Spot}
use Rattle.machine_rules.specs.declared.Spot.TheVariants.{OnDisk, InStage}
use Rattle.machine_rules.specs.declared.Seat.{Seat}
use Rattle.std.specs.Prelude.{Some}

-- ---- spots are slots that there are

pub disk-valid : (s : Setting) (l : List ℕ) → every (λ n. ltb n s.disksectors) l ≡ true → every (valid s) (each OnDisk l) ≡ true
unfolding every each valid
disk-valid s [] h = refl
disk-valid s (x ∷ xs) h = both-join _ _ (both_left _ _ h) (disk-valid s xs (both_right _ _ h))

no-place-every : (p : ℕ → Bool) (z : ℕ) → every p (committed z no_place) ≡ true
unfolding committed no_place pick every
no-place-every p z = refl

-- what holds of all slots holds of a contract's
pub whose-every : (p : ℕ → Bool) (z : ℕ) (id : List ℕ) (ps : List Place) → every p (taken z ps) ≡ true → every p (committed z (whose id ps)) ≡ true
unfolding taken joined whose
whose-every p z id [] h = no-place-every p z
whose-every p z id (q ∷ ps) h =
    by (has_id id q)
    (λ e. ap (λ (x : Place). every p (committed z x)) (picks (has_id id q) q (whose id ps) e) ∙ every-fore _ (committed z q) _ h)
    (λ e. ap (λ (x : Place). every p (committed z x)) (skips (has_id id q) q (whose id ps) e) ∙ whose-every p z id ps (every-aft _ (committed z q) _ h))

pub whose-nobody : (id : List ℕ) (ps : List Place) → (whose id ps).held ≡ false → (whose id ps).size ≡ 0
unfolding whose no_place
whose-nobody id [] h = refl
whose-nobody id (p ∷ ps) h =
    by (has_id id p)
    (λ e. never (sym (has-held id p e) ∙ sym (ap (λ (x : Place). x.held) (picks (has_id id p) p (whose id ps) e)) ∙ h))
    (λ e. ap (λ (x : Place). x.size) (skips (has_id id p) p (whose id ps) e)
    ∙ whose-nobody id ps (sym (ap (λ (x : Place). x.held) (skips (has_id id p) p (whose id ps) e)) ∙ h))

-- ---- what holds of all committed sectors holds of the one that is found

pub disk-every : (P : Spot → Bool) (l : List ℕ) → every (λ n. P (OnDisk n)) l ≡ true → every P (each OnDisk l) ≡ true
unfolding every each
disk-every P [] h = refl
disk-every P (x ∷ xs) h = both-join _ _ (both_left _ _ h) (disk-every P xs (both_right _ _ h))

seated-every : (P : Spot → Bool) (i at : ℕ) (l : List Spot) → every P l ≡ true → every (λ x. P x.spot) (seated i at l) ≡ true
unfolding seated every
seated-every P i at [] h = refl
seated-every P i at (x ∷ xs) h = both-join _ _ (both_left _ _ h) (seated-every P i (suc at) xs (both_right _ _ h))

module _ (P : Spot → Bool) (z : ℕ) (mine : Place → Bool) where
  committed-every : (i : ℕ) (ps : List Place) → every (λ n. P (OnDisk n)) (taken z ps) ≡ true
      → every (λ x. P x.spot) (committed_seats z mine i ps) ≡ true
  unfolding committed_seats taken joined committed_spots
  committed-every i [] h = every-none _
  committed-every i (p ∷ ps) h =
      let l = seated i 0 (committed_spots z p) in
      let own = seated-every P i 0 (committed_spots z p) (disk-every P (committed z p) (every-fore _ (committed z p) _ h)) in
      rw (
        every_append (λ (x : Seat). P x.spot) (pick (mine p) [] l) (committed_seats z mine (suc i) ps),
        every-pick (λ (x : Seat). P x.spot) (mine p) [] l (every-none _) own,
        committed-every (suc i) ps (every-aft _ (committed z p) _ h),
      ) (both-join true true refl refl)

  pub seats-every : (own : List Spot) (ps : List Place) → every P own ≡ true → every (λ n. P (OnDisk n)) (taken z ps) ≡ true
      → every (λ x. P x.spot) (seats z mine own ps) ≡ true
  unfolding seats
  seats-every own ps u v = rw (every_append (λ (x : Seat). P x.spot) _ _, seated-every P _ 0 own u, committed-every 0 ps v) (both-join true true refl refl)

-- what is true of the parent's sectors and of all committed ones is true of all that a program looks through
pub program-every : (P : Spot → Bool) (s : Setting) (p : Progress) → every P (parent_spots s p) ≡ true
    → every (λ n. P (OnDisk n)) (taken s.sector s.places) ≡ true → every (λ x. P x.spot) (seats_of s p) ≡ true
unfolding seats_of every
program-every P s p u v =
    every-pick (λ (x : Seat). P x.spot) (read_only_mode s.terms) _ _ (seats-every P s.sector _ [] s.places refl v)
    (seats-every P s.sector _ (parent_spots s p) s.places u v)

-- and so of the one that is found
pub sought-every : (P : Spot → Bool) (f : Spot → List ℕ) (key : List ℕ) (l : List Seat) → every (λ x. P x.spot) l ≡ true
    → every P (spots (sought_source (first_seat f key l))) ≡ true
unfolding first_seat sought_source spots every
sought-every P f key [] h = refl
sought-every P f key (x ∷ xs) h =
    by (same (f x.spot) key)
    (λ e. rw (picks (same (f x.spot) key) (Some x) (first_seat f key xs) e) (both-join _ _ (both_left _ _ h) refl))
    (λ e. rw (skips (same (f x.spot) key) (Some x) (first_seat f key xs) e) (sought-every P f key xs (both_right _ _ h)))

none-valid : (s : Setting) → every (valid s) [] ≡ true
unfolding every
none-valid s = refl

pub pick-spots : (b : Bool) (x y : Source) → spots (pick b x y) ≡ pick b (spots x) (spots y)
unfolding pick
pick-spots true x y = refl
pick-spots false x y = refl

module _ (s : Setting) (vol : Volume) (p : Progress) (solid : Solid s vol) (f : Staged s.stagesectors (start_of s) (p.size / s.sector) p.staged)
    (long : p.size / s.sector ≤ length p.staged) where
  -- a position with no copy is a committed one
  pub unstaged : (j : ℕ) → j < p.size / s.sector → eqb (get_or p.staged j none) none ≡ true → j < start_of s
  unstaged j lt e =
      by (ltb j (start_of s))
      (λ u. ltb-true j (start_of s) u)
      (λ u. let le = ltb-false j (start_of s) u in
      let i : ℕ = j - start_of s in
      let at : start_of s + (j - start_of s) ≡ j = omega arith in
      let inside : j - start_of s < length (drop (start_of s) (take (p.size / s.sector) p.staged)) =
      omega (arith, length-drop (start_of s) (take (p.size / s.sector) p.staged), length-take-le (p.size / s.sector) p.staged long) in
      let g : get_or (drop (start_of s) (take (p.size / s.sector) p.staged)) (j - start_of s) none ≡ get_or p.staged j none =
      get_or-drop (start_of s) (take (p.size / s.sector) p.staged) (j - start_of s) none
      ∙ ap (λ (x : ℕ). get_or (take (p.size / s.sector) p.staged) x none) at ∙ get_or-take (p.size / s.sector) p.staged j none lt in
      let q : not (eqb (get_or p.staged j none) none) ≡ true =
      subst (λ (x : ℕ). not (eqb x none) ≡ true) g (every_get (λ n. not (eqb n none)) (drop (start_of s) (take (p.size / s.sector) p.staged))
      (j - start_of s) none inside f.past) in
      never (sym e ∙ not-true _ q))

  pub committed-slot : (j : ℕ) → j < start_of s → ltb (get_or (whose s.terms.head.contract s.places).slots j 0) s.disksectors ≡ true
  committed-slot j lt =
      by (whose s.terms.head.contract s.places).held
      (λ u. subst (λ (x : ℕ). ltb x s.disksectors ≡ true) (get_or-take (start_of s) (whose s.terms.head.contract s.places).slots j 0 lt)
      (every-at (λ n. ltb n s.disksectors) (take (start_of s) (whose s.terms.head.contract s.places).slots) j 0
      (subst (λ (l : List ℕ). every (λ n. ltb n s.disksectors) l ≡ true) (committed-held s.sector (whose s.terms.head.contract s.places) u)
      (whose-every _ s.sector s.terms.head.contract s.places solid.slots))
      (lt-ltb 0 s.disksectors solid.one)))
      (λ u. let q : start_of s ≡ 0 = ap (λ (n : ℕ). n / s.sector) (whose-nobody s.terms.head.contract s.places u) ∙ zero-div s.sector in absurd
      (omega arith))

  spot-valid : (j : ℕ) → j < p.size / s.sector → valid s (spot_of (parent s).slots p.staged j) ≡ true
  unfolding spot_of valid parent slot_in_order
  spot-valid j lt =
      by (eqb (get_or p.staged j none) none)
      (λ e. ap (valid s) (picks (eqb (get_or p.staged j none) none) (OnDisk (get_or (whose s.terms.head.contract s.places).slots j 0))
      (InStage (get_or p.staged j none)) e) ∙ committed-slot j (unstaged j lt e))
      (λ e. ap (valid s) (skips (eqb (get_or p.staged j none) none) (OnDisk (get_or (whose s.terms.head.contract s.places).slots j 0))
      (InStage (get_or p.staged j none)) e) ∙ either_second (eqb (get_or p.staged j none) none) _
      (every-at (slot_in_order s.stagesectors) p.staged j none f.slots (slot-none s.stagesectors)) e)

  pub parent-valid : every (valid s) (parent_spots s p) ≡ true
  unfolding parent_spots
  parent-valid = every-tab (valid s) (spot_of (parent s).slots p.staged) 0 (p.size / s.sector) (λ j lo hi. spot-valid j (omega arith))

  contract-valid : (id : List ℕ) → every (valid s) (spots (contract_source s p id)) ≡ true
  unfolding contract_source committed_spots spots
  contract-valid id =
      ap (λ (l : List Spot). every (valid s) l) (pick-spots _ missing _)
      ∙ every-pick (valid s) _ [] _ (none-valid s)
      (ap (λ (l : List Spot). every (valid s) l) (pick-spots _ (seen (parent_spots s p)) _)
      ∙ every-pick (valid s) _ (parent_spots s p) _ parent-valid (disk-valid s (committed s.sector (whose id s.places))
      (whose-every _ s.sector id s.places solid.slots)))

  pub source-valid : (r : Spot → List ℕ) (op : Op) (key : List ℕ) → every (valid s) (spots (source_of s r p op key)) ≡ true
  unfolding source_of sector_source spots valid
  source-valid r Read key = contract-valid key
  source-valid r ReadSector key = sought-every (valid s) r key (seats_of s p) (program-every (valid s) s p parent-valid solid.slots)
  source-valid r Write key = none-valid s
  source-valid r Copy key = none-valid s
  source-valid r Swap key = none-valid s
  source-valid r Truncate key = none-valid s
  source-valid r Unknown key = none-valid s

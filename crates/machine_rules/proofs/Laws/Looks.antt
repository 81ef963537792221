-- The look-up of a program, in its order. Assumes nothing.
use Rattle.lists.proofs.Kit.{◌≡◌, refl, sym, ap, ap₂, ◌∙◌, subst, true, false, List, [], ◌∷◌, ◌++◌, ℕ, suc, ◌+◌, ◌/◌, ◌≤◌, ◌<◌, arith, length, get_or}
use Rattle.lists.proofs.Kit.{leb, ltb, eqb, eqb-true, eq-eqb, leb-true, leb-false, lt-ltb}
use Rattle.lists.specs.Pick.{pick}
use Rattle.lists.specs.Tests.{each, apart, first_of}
use Rattle.lists.proofs.Laws.Pick.{by, picks, skips, never}
use Rattle.lists.proofs.Laws.Tab.{length-tab, get_or-tab}
use Rattle.lists.proofs.Laws.Each.{each_both}
use Rattle.area.specs.Area.{same}
use Rattle.area.proofs.Laws.Same.{eq-same}
use Rattle.sia.specs.Encode.{joined}
use Rattle.host.specs.Places.{has_id, whose, committed, taken}
use Rattle.host.specs.Order.{in_order, twins, parent_in_order}
use Rattle.host.proofs.Laws.Order.{order-facts}
use Rattle.machine_rules.specs.View.{read_only_mode, parent, spot_of, parent_spots, committed_spots, setting_of}
use Rattle.machine_rules.specs.declared.Setting.{Setting}
use Rattle.machine_rules.specs.Seats.{seated, committed_seats, seats, nobody, all_seats, seats_of, first_seat}
use Rattle.machine_rules.specs.Plan.{seen, sought_source, sector_source}
use Rattle.machine_rules.specs.StageFirst.{Search, is_mine, sectors_at, Sits, earlier, Finds, writing, reading, all_spots, first_root}
use Rattle.machine_rules.specs.StageFirst.{Looks}
use Rattle.machine_rules.proofs.Laws.Found.{first-here, first-further}
use Rattle.machine_rules.proofs.Laws.Search.{finds}
use Rattle.machine_rules.proofs.Laws.Homes.{first-place, apart-reading, apart-writing}
use Rattle.host.specs.declared.Place.{Place}
use Rattle.host.specs.declared.Progress.{Progress}
use Rattle.host.specs.declared.Host.{Host}
use Rattle.machine_rules.specs.declared.Spot.{Spot}
use Rattle.machine_rules.specs.declared.Spot.TheVariants.{OnDisk}
use Rattle.machine_rules.specs.declared.Seat.{Seat}
use Rattle.std.specs.Prelude.{Option, Some, None}

-- ---- document 01's look-up

abbrev spots_in : List Seat → List Spot
spots_in l = each (λ x. x.spot) l

seated-spots : (i at : ℕ) (l : List Spot) → spots_in (seated i at l) ≡ l
unfolding seated each
seated-spots i at [] = refl
seated-spots i at (x ∷ l) = ap (λ (r : List Spot). x ∷ r) (seated-spots i (suc at) l)

-- all committed sectors are those of the slots in use
committed-spots : (z i : ℕ) (ps : List Place) → spots_in (committed_seats z nobody i ps) ≡ all_spots z ps
unfolding committed_seats committed_spots nobody taken joined each pick
committed-spots z i [] = refl
committed-spots z i (p ∷ ps) =
    each_both (λ (x : Seat). x.spot) (seated i 0 (committed_spots z p)) (committed_seats z nobody (suc i) ps)
    ∙ ap₂ ◌++◌ (seated-spots i 0 (committed_spots z p)) (committed-spots z (suc i) ps)
    ∙ sym (each_both OnDisk (committed z p) (taken z ps))

sought-first : (f : Spot → List ℕ) (key : List ℕ) (l : List Seat) → sought_source (first_seat f key l) ≡ first_root f key (spots_in l)
unfolding first_seat sought_source first_root each
sought-first f key [] = refl
sought-first f key (x ∷ l) =
    by (same (f x.spot) key)
    (λ e. ap sought_source (first-here f key x l e) ∙ sym (picks (same (f x.spot) key) (seen (x.spot ∷ [])) (first_root f key (spots_in l)) e))
    (λ e. ap sought_source (first-further f key x l e) ∙ sought-first f key l
    ∙ sym (skips (same (f x.spot) key) (seen (x.spot ∷ [])) (first_root f key (spots_in l)) e))

-- ---- an instruction of a program that is open

-- the same answer finds the same
pub same-finds : (q : Search) (f : Spot → List ℕ) (key : List ℕ) {r s : Option Seat} → r ≡ s → Finds q f key r → Finds q f key s
same-finds q f key e h = subst (Finds q f key) e h

module _ (s : Setting) (f : Spot → List ℕ) (p : Progress) (key : List ℕ) where
  abbrev id : List ℕ
  id = s.terms.head.contract

  abbrev pub found : Option Seat
  found = first_seat f key (seats_of s p)

  seats-reading : read_only_mode s.terms ≡ true → seats_of s p ≡ committed_seats s.sector nobody 0 s.places
  unfolding seats_of seats seated
  seats-reading e = picks (read_only_mode s.terms) (all_seats s.sector s.places) _ e

  all-reading : read_only_mode s.terms ≡ true → Finds (reading s.sector s.places) f key found
  unfolding seats_of
  all-reading e =
      let l = all_seats s.sector s.places in
      let is : first_seat f key l ≡ found = ap (first_seat f key) (sym (picks (read_only_mode s.terms) l _ e)) in
      same-finds (reading s.sector s.places) f key is (finds (reading s.sector s.places) f key (apart-reading s.sector s.places))

  look-reading : read_only_mode s.terms ≡ true → sector_source s f p key ≡ first_root f key (all_spots s.sector s.places)
  unfolding sector_source
  look-reading e =
      ap (λ (l : List Seat). sought_source (first_seat f key l)) (seats-reading e)
      ∙ sought-first f key (committed_seats s.sector nobody 0 s.places)
      ∙ ap (first_root f key) (committed-spots s.sector 0 s.places)

  module _ (a : apart twins s.places ≡ true) (held : (whose id s.places).held ≡ true) (e : read_only_mode s.terms ≡ false) where
    look-writing : Finds (writing s p) f key found
    unfolding seats_of
    look-writing =
        let l = seats s.sector (has_id id) (parent_spots s p) s.places in
        let is : first_seat f key l ≡ found = ap (first_seat f key) (sym (skips (read_only_mode s.terms) (all_seats s.sector s.places) l e)) in
        same-finds (writing s p) f key is (finds (writing s p) f key (apart-writing s p a held))

    -- the parent's sector at position j
    module _ (j : ℕ) (below : j < p.size / s.sector) (root : f (spot_of (parent s).slots p.staged j) ≡ key) where
      abbrev home : ℕ
      home = first_of (has_id id) s.places

      abbrev written : Seat
      written = record { place = home; position = j; spot = spot_of (parent s).slots p.staged j }

      mine : is_mine (writing s p) home ≡ true
      mine = first-place id s.places held

      own-sectors : sectors_at (writing s p) home ≡ parent_spots s p
      unfolding sectors_at
      own-sectors = picks (is_mine (writing s p) home) (parent_spots s p) _ mine

      written-sits : Sits (writing s p) written
      unfolding parent_spots
      written-sits =
          let g = spot_of (parent s).slots p.staged in
          let at : 0 + j ≡ j = omega arith in
          record {
            within = omega (arith, below, ap length own-sectors, length-tab 0 (p.size / s.sector) g);
            spot = sym (ap (λ (l : List Spot). get_or l j (OnDisk 0)) own-sectors ∙ get_or-tab 0 (p.size / s.sector) g j (OnDisk 0) below ∙ ap g at);
          }

      has : same (f written.spot) key ≡ true
      has = eq-same _ _ root

      is_found_lem : found ≡ None → ⊥
      is_found_lem q = never (sym has ∙ look-writing.nowhere q written written-sits)

      module _ (x : Seat) (q : found ≡ Some x) where
        -- nothing that has the root is searched before what is found
        not_earlier : earlier (writing s p) written x ≡ true → ⊥
        not_earlier b = never (sym has ∙ (look-writing.found x q).first written written-sits b)

        in-parent : x.place ≡ home
        unfolding earlier
        in-parent =
            by (eqb home x.place)
            (λ t. sym (eqb-true _ _ t))
            (λ t. absurd (not_earlier (skips (eqb home x.place) (ltb j x.position) _ t ∙ picks (is_mine (writing s p) home) true _ mine)))

        not-later : x.position ≤ j
        unfolding earlier
        not-later =
            by (leb x.position j)
            (λ t. leb-true _ _ t)
            (λ t. let later = leb-false x.position j t in
            absurd (not_earlier (picks (eqb home x.place) (ltb j x.position) _ (eq-eqb _ _ (sym in-parent))
            ∙ lt-ltb j x.position (omega (arith, later)))))

  pub looks-in : apart twins s.places ≡ true → (read_only_mode s.terms ≡ false → (whose id s.places).held ≡ true) → Looks s f p key
  looks-in a held = record {
    writer = λ e. look-writing a (held e) e;
    written = λ e j below root.
        (is_found_lem a (held e) e j below root, λ x q. (in-parent a (held e) e j below root x q, not-later a (held e) e j below root x q));
    reader = all-reading;
    unchanged = look-reading;
  }

pub looks : (h : Host) → in_order h ≡ true → h.program.active ≡ true → (f : Spot → List ℕ) (p : Progress) (key : List ℕ)
    → Looks (setting_of h) f p key
unfolding read_only_mode parent_in_order
looks h o live f p key =
    let facts = order-facts h o in
    let id = h.program.terms.head.contract in
    looks-in (setting_of h) f p key facts.contracts.differ
    (λ e. sym (skips (read_only_mode h.program.terms) (eqb h.program.progress.size 0) (whose id h.places).held e)
    ∙ (facts.running live).terms.parent)

-- What is read: a walk down the definition of each lookup. Assumes nothing.
use Rattle.lists.proofs.Kit.{◌≡◌, refl, sym, ap, ◌∙◌, true, false, not, List, [], ◌∷◌, ℕ, ◌+◌, ◌*◌, ◌≤◌, arith, length, leb-true}
use Rattle.lists.specs.Pick.{pick}
use Rattle.lists.specs.Tests.{every}
use Rattle.lists.proofs.Laws.Pick.{yes, no, both_left}
use Rattle.area.specs.Area.{same}
use Rattle.area.proofs.Laws.Same.{same-eq}
use Rattle.host.specs.Places.{has_id, whose}
use Rattle.machine_rules.specs.View.{read_only_mode, parent, parent_spots, committed_spots}
use Rattle.machine_rules.specs.declared.Setting.{Setting}
use Rattle.machine_rules.specs.Roots.{kept_root}
use Rattle.machine_rules.specs.Seats.{seats, all_seats, seats_of, first_seat}
use Rattle.machine_rules.specs.Plan.{Source, missing, seen, spots, is_there, contract_source, sought_source, sector_source}
use Rattle.machine_rules.proofs.Laws.Spots.{program-every, sought-every}
use Rattle.machine_sight.specs.Seen.{spots_of, holds, lies}
use Rattle.machine_sight.specs.Lookup.{Narrow}
use Rattle.host.specs.declared.Progress.{Progress}
use Rattle.machine_rules.specs.declared.Spot.{Spot}
use Rattle.machine_rules.specs.declared.Spot.TheVariants.{OnDisk, InStage}
use Rattle.machine_rules.specs.declared.Seat.{Seat}
use Rattle.std.specs.Prelude.{Option, Some, None}
use Rattle.machine_sight.specs.declared.Seen.{Seen}
use Rattle.machine_plan.specs.Source.{Sources}

-- ---- what is seen

module _ (v : Seen) (x : Source) (e : seen (spots_of v) ≡ x) where
  pub there-is : not (is_there x) ≡ false
  unfolding is_there
  there-is = ap (λ (s : Source). not (is_there s)) (sym e)

  pub spots-are : spots_of v ≡ spots x
  unfolding spots
  spots-are = ap spots e

pub gone : (x : Source) → missing ≡ x → not (is_there x) ≡ true
unfolding is_there
gone x e = ap (λ (s : Source). not (is_there s)) (sym e)

-- ---- contracts

module _ (s : Setting) (p : Progress) (id : List ℕ) where
  pub not_found : (whose id s.places).held ≡ false → missing ≡ contract_source s p id
  unfolding contract_source
  not_found h = yes _ _ _ (ap not h) refl

  module _ (held : (whose id s.places).held ≡ true) where
    pub own-found : same id s.terms.head.contract ≡ true → seen (parent_spots s p) ≡ contract_source s p id
    unfolding contract_source
    own-found e = no _ _ _ (ap not held) (yes _ _ _ e refl)

    pub other-found : same id s.terms.head.contract ≡ false → seen (committed_spots s.sector (whose id s.places)) ≡ contract_source s p id
    unfolding contract_source
    other-found e = no _ _ _ (ap not held) (no _ _ _ e refl)

-- the parent by its id
pub parent-whose : (s : Setting) (id : List ℕ) → same id s.terms.head.contract ≡ true → whose id s.places ≡ parent s
unfolding parent
parent-whose s id e = ap (λ (k : List ℕ). whose k s.places) (same-eq _ _ e)

-- ---- sectors

-- a slot whose root is kept has a number that a byte holds
narrow : (diskroots stageroots : List ℕ) (x : Spot) → length diskroots ≤ 64 * 32 → length stageroots ≤ 16 * 32
    → lies 32 diskroots stageroots x ≡ true → Narrow x
unfolding lies holds
narrow diskroots stageroots (OnDisk n) d e h = omega (arith, d, leb-true (n * 32 + 32) (length diskroots) h)
narrow diskroots stageroots (InStage n) d e h = omega (arith, e, leb-true (n * 32 + 32) (length stageroots) h)

module _ (s : Setting) (diskroots stageroots : List ℕ) (p : Progress) (a : Sources s diskroots stageroots p) (key : List ℕ) where
  abbrev f : Spot → List ℕ
  f = kept_root diskroots stageroots

  -- what the look-up comes to is the source
  module _ {r : Option Seat} (e : r ≡ first_seat f key (pick (read_only_mode s.terms) (all_seats s.sector s.places)
      (seats s.sector (has_id s.terms.head.contract) (parent_spots s p) s.places))) where
    source_is : sought_source r ≡ sector_source s f p key
    unfolding sector_source seats_of
    source_is = ap sought_source e

    -- and the sector that is found is in a slot that a byte names
    pub sought-narrow : (x : Seat) → r ≡ Some x → Narrow x.spot
    unfolding sought_source spots every lies seats_of parent_spots parent
    sought-narrow x q =
        let all = program-every (lies 32 diskroots stageroots) s p a.seeks.own a.seeks.stand.slots in
        let one = sought-every (lies 32 diskroots stageroots) f key _ all in
        narrow diskroots stageroots x.spot a.disk a.stage
        (both_left _ _ (sym (ap (λ (s : Option Seat). every (lies 32 diskroots stageroots) (spots (sought_source s))) (sym e ∙ q)) ∙ one))

    pub sought-seen : (v : Seen) (x : Seat) → r ≡ Some x → spots_of v ≡ x.spot ∷ [] → seen (spots_of v) ≡ sector_source s f p key
    unfolding sought_source
    sought-seen v x q one = ap seen one ∙ sym (ap sought_source q) ∙ source_is

    pub not-sought : r ≡ None → missing ≡ sector_source s f p key
    unfolding sought_source
    not-sought q = sym (ap sought_source q) ∙ source_is

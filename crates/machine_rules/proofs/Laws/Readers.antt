-- Two readers of roots that agree on what is seen give the same roots, look-ups, proofs and checks. Assumes nothing.
use Rattle.lists.proofs.Kit.{◌≡◌, refl, sym, ap, ap₂, ◌∙◌, subst, Bool, true, false, List, [], ◌∷◌, ◌++◌, ℕ, ◌+◌, ◌/◌, ◌%◌, ◌≤◌, ◌<◌, zero-div, arith}
use Rattle.lists.proofs.Kit.{length, take, get_or, length-take, length-replicate, get_or-take, eqb}
use Rattle.lists.specs.Pick.{pick}
use Rattle.lists.specs.Tests.{every}
use Rattle.lists.proofs.Laws.Pick.{by, picks, skips, both_left, both_right}
use Rattle.lists.proofs.Laws.Tab.{every-tab}
use Rattle.lists.proofs.Laws.Every.{every_get, every-pick, every-alike, every-none}
use Rattle.area.specs.Area.{same}
use Rattle.area.proofs.Laws.Same.{same-eq}
use Rattle.tree.specs.Tree.{join}
use Rattle.tree.specs.Walk.{proof_in}
use Rattle.sia.specs.Encode.{joined}
use Rattle.host.specs.Empty.{none, no_place}
use Rattle.host.specs.Places.{has_id, whose, taken}
use Rattle.host.specs.Facts.{Staged}
use Rattle.host.proofs.Laws.Whose.{committed-held}
use Rattle.machine_rules.specs.View.{Way, kept, worked, Turn, parent, sector, spot_of, parent_spots, committed_spots, Volume}
use Rattle.machine_rules.specs.declared.Setting.{Setting}
use Rattle.machine_rules.specs.Roots.{sector_root, kept_root, root_by, root_of, contract_root, range_proof}
use Rattle.machine_rules.specs.Seats.{seats_of, first_seat}
use Rattle.machine_rules.specs.Plan.{missing, seen, spots, contract_source, sector_source, source_of}
use Rattle.machine_rules.specs.Facts.{Solid, start_of}
use Rattle.machine_rules.specs.Visit.{Shaped}
use Rattle.machine_rules.specs.Sound.{right, staged_right}
use Rattle.machine_rules.proofs.Laws.Spots.{whose-every, whose-nobody, unstaged, pick-spots, disk-every, program-every, sought-every}
use Rattle.machine_rules.proofs.Laws.Rehashed.{right-at}
use Rattle.sia.specs.declared.Op.{Op}
use Rattle.sia.specs.declared.Op.TheVariants.{Read, ReadSector, Write, Copy, Swap, Truncate, Unknown}
use Rattle.host.specs.declared.Place.{Place}
use Rattle.host.specs.declared.Progress.{Progress}
use Rattle.machine_rules.specs.declared.Spot.{Spot}
use Rattle.machine_rules.specs.declared.Spot.TheVariants.{OnDisk, InStage}
use Rattle.machine_rules.specs.declared.Seat.{Seat}
use Rattle.std.specs.Prelude.{Option, Some}

-- ---- readers that agree

unfoldable pub agree : (Spot → List ℕ) → (Spot → List ℕ) → Spot → Bool
agree f g x = same (f x) (g x)

pub joined-agree : (f g : Spot → List ℕ) (l : List Spot) → every (agree f g) l ≡ true → joined f l ≡ joined g l
unfolding joined every agree
joined-agree f g [] h = refl
joined-agree f g (x ∷ xs) h = ap₂ ◌++◌ (same-eq _ _ (both_left _ _ h)) (joined-agree f g xs (both_right _ _ h))

pub root-agree : (f g : Spot → List ℕ) (l : List Spot) → every (agree f g) l ≡ true → contract_root f l ≡ contract_root g l
unfolding contract_root
root-agree f g [] h = refl
root-agree f g (x ∷ xs) h = ap join (joined-agree f g (x ∷ xs) h)

pub proof-agree : (z : ℕ) (f g : Spot → List ℕ) (disk stage : List ℕ) (l : List Spot) (at n : ℕ) → every (agree f g) l ≡ true
    → range_proof z f disk stage l at n ≡ range_proof z g disk stage l at n
unfolding range_proof
proof-agree z f g disk stage [] at n h = refl
proof-agree z f g disk stage (x ∷ xs) at n h =
    ap (λ (r : List ℕ). proof_in r (at / z) (sector z disk stage (get_or (x ∷ xs) (at / z) x)) (at % z / 64) (at % z / 64 + n / 64))
    (joined-agree f g (x ∷ xs) h)

pub first-agree : (f g : Spot → List ℕ) (key : List ℕ) (l : List Seat) → every (λ x. agree f g x.spot) l ≡ true
    → first_seat f key l ≡ first_seat g key l
unfolding first_seat every agree
first-agree f g key [] h = refl
first-agree f g key (x ∷ xs) h =
    ap₂ (λ (r : List ℕ) (rest : Option Seat). pick (same r key) (Some x) rest) (same-eq _ _ (both_left _ _ h)) (first-agree f g key xs (both_right _ _ h))

-- ---- what holds of every sector in use holds of all that is seen

length-slots : (id : List ℕ) (ps : List Place) → Shaped ps → length (whose id ps).slots ≡ 64
unfolding whose no_place
length-slots id [] h = length-replicate {A = ℕ} 64 0
length-slots id (p ∷ ps) h =
    by (has_id id p)
    (λ e. ap (λ (x : Place). length x.slots) (picks (has_id id p) p (whose id ps) e) ∙ h.0)
    (λ e. ap (λ (x : Place). length x.slots) (skips (has_id id p) p (whose id ps) e) ∙ length-slots id ps h.1)

module _ (s : Setting) (P : Spot → Bool) (on_disk : every (λ n. P (OnDisk n)) (taken s.sector s.places) ≡ true) where
  pub all-committed : (id : List ℕ) → every P (committed_spots s.sector (whose id s.places)) ≡ true
  unfolding committed_spots
  all-committed id = disk-every P _ (whose-every (λ n. P (OnDisk n)) s.sector id s.places on_disk)

  pub all_start : every P (committed_spots s.sector (parent s)) ≡ true
  unfolding parent
  all_start = all-committed s.terms.head.contract

module _ (s : Setting) (vol : Volume) (p : Progress) (solid : Solid s vol) (f : Staged s.stagesectors (start_of s) (p.size / s.sector) p.staged)
    (few : p.size / s.sector ≤ 64) (long : length p.staged ≡ 64) (shaped : Shaped s.places)
    (P : Spot → Bool) (on_disk : every (λ n. P (OnDisk n)) (taken s.sector s.places) ≡ true) (in_stage : (j : ℕ) → eqb (get_or p.staged j none) none
    ≡ false
    → P (InStage (get_or p.staged j none)) ≡ true) where
  slot-all : (j : ℕ) → j < start_of s → j < 64 → P (OnDisk (get_or (whose s.terms.head.contract s.places).slots j 0)) ≡ true
  slot-all j lt most =
      let own = whose s.terms.head.contract s.places in
      by (whose s.terms.head.contract s.places).held
      (λ u. subst (λ (x : ℕ). P (OnDisk x) ≡ true) (get_or-take (start_of s) (whose s.terms.head.contract s.places).slots j 0 lt)
      (every_get (λ n. P (OnDisk n)) (take (start_of s) (whose s.terms.head.contract s.places).slots) j 0
      (omega (
        arith,
        length-take (start_of s) (whose s.terms.head.contract s.places).slots,
        length-slots s.terms.head.contract s.places shaped,
      ))
      (subst (λ (l : List ℕ). every (λ n. P (OnDisk n)) l ≡ true) (committed-held s.sector (whose s.terms.head.contract s.places) u)
      (whose-every (λ n. P (OnDisk n)) s.sector s.terms.head.contract s.places on_disk))))
      (λ u. let q : start_of s ≡ 0 = ap (λ (n : ℕ). n / s.sector) (whose-nobody s.terms.head.contract s.places u) ∙ zero-div s.sector in absurd
      (omega arith))

  spot-all : (j : ℕ) → j < p.size / s.sector → P (spot_of (parent s).slots p.staged j) ≡ true
  unfolding spot_of parent
  spot-all j lt =
      by (eqb (get_or p.staged j none) none)
      (λ e. ap P (picks (eqb (get_or p.staged j none) none) (OnDisk (get_or (whose s.terms.head.contract s.places).slots j 0))
      (InStage (get_or p.staged j none)) e)
      ∙ slot-all j (unstaged s vol p solid f (omega (arith, long)) j lt e) (omega arith))
      (λ e. ap P (skips (eqb (get_or p.staged j none) none) (OnDisk (get_or (whose s.terms.head.contract s.places).slots j 0))
      (InStage (get_or p.staged j none)) e) ∙ in_stage j e)

  pub all-parent : every P (parent_spots s p) ≡ true
  unfolding parent_spots
  all-parent = every-tab P (spot_of (parent s).slots p.staged) 0 (p.size / s.sector) (λ j lo hi. spot-all j (omega arith))

  all-contract : (id : List ℕ) → every P (spots (contract_source s p id)) ≡ true
  unfolding contract_source spots
  all-contract id =
      ap (λ (l : List Spot). every P l) (pick-spots _ missing _)
      ∙ every-pick P _ [] _ (every-none P)
      (ap (λ (l : List Spot). every P l) (pick-spots _ (seen (parent_spots s p)) _)
      ∙ every-pick P _ (parent_spots s p) _ all-parent (all-committed s P on_disk id))

  pub all-seats : every (λ x. P x.spot) (seats_of s p) ≡ true
  all-seats = program-every P s p all-parent on_disk

  pub all-source : (r : Spot → List ℕ) (op : Op) (key : List ℕ) → every P (spots (source_of s r p op key)) ≡ true
  unfolding source_of sector_source spots
  all-source r Read key = all-contract key
  all-source r ReadSector key = sought-every P r key (seats_of s p) all-seats
  all-source r Write key = every-none P
  all-source r Copy key = every-none P
  all-source r Swap key = every-none P
  all-source r Truncate key = every-none P
  all-source r Unknown key = every-none P

-- ---- the kept reader and the one that works roots out

unfoldable pub with_way : Way → Volume → Volume
with_way way vol = record { disk = vol.disk; roots = vol.roots; way = way }

disk-agrees : (s : Setting) (vol : Volume) (stage copies : List ℕ) (n : ℕ) → right s.sector vol.disk vol.roots n
    ≡ agree (root_of s (with_way kept vol) stage copies) (root_of s (with_way worked vol) stage copies) (OnDisk n)
unfolding right agree root_of root_by with_way kept_root sector_root sector
disk-agrees s vol stage copies n = refl

stage-agrees : (s : Setting) (vol : Volume) (stage copies : List ℕ) (n : ℕ) → right s.sector stage copies n
    ≡ agree (root_of s (with_way kept vol) stage copies) (root_of s (with_way worked vol) stage copies) (InStage n)
unfolding right agree root_of root_by with_way kept_root sector_root sector
stage-agrees s vol stage copies n = refl

-- roots that are right, of the sectors that there are while instructions run
pub record Known (s : Setting) (vol : Volume) (t : Turn) : Type 0 where
  pub disk : every (right s.sector vol.disk vol.roots) (taken s.sector s.places) ≡ true
  pub stage : staged_right s.sector t.stage t.roots t.progress.staged ≡ true
  pub kept : length t.roots ≡ 512
  pub shaped : Shaped s.places

pub known-disk : (s : Setting) (vol : Volume) (stage copies : List ℕ) → every (right s.sector vol.disk vol.roots) (taken s.sector s.places)
    ≡ true
    → every (λ n. agree (root_of s (with_way kept vol) stage copies) (root_of s (with_way worked vol) stage copies) (OnDisk n)) (taken s.sector s.places)
    ≡ true
known-disk s vol stage copies h = every-alike _ _ _ (disk-agrees s vol stage copies) h

pub known-stage : (s : Setting) (vol : Volume) (stage copies staged : List ℕ) → staged_right s.sector stage copies staged ≡ true → (j : ℕ)
    → eqb (get_or staged j none) none ≡ false
    → agree (root_of s (with_way kept vol) stage copies) (root_of s (with_way worked vol) stage copies) (InStage (get_or staged j none)) ≡ true
known-stage s vol stage copies staged h j n = sym (stage-agrees s vol stage copies (get_or staged j none)) ∙ right-at s.sector stage copies staged j h n

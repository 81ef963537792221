-- An area with y bytes a slot after a commit, of sectors and of the roots kept beside them alike: the parent's slots hold what its positions
-- are read as, and every other slot is left. Assumes nothing.
use Rattle.lists.proofs.Kit.{◌≡◌, sym, ap, ◌∙◌, subst, true, false, List, [], ◌++◌, append-nil, ℕ, ◌+◌, ◌*◌, ◌/◌, ◌≤◌, ◌<◌, arith, length, get_or, ltb, eqb}
use Rattle.lists.proofs.Kit.{not-true, ltb-true}
use Rattle.lists.specs.Tests.{every, each, apart, unused}
use Rattle.lists.specs.Tab.{tab}
use Rattle.lists.proofs.Laws.Pick.{by, picks, skips}
use Rattle.lists.proofs.Laws.Every.{every-and, every-fore, every-aft, every_get}
use Rattle.lists.proofs.Laws.Some.{some_at}
use Rattle.lists.proofs.Laws.Apart.{apart_out, distinct, fore-unused, aft-unused}
use Rattle.area.specs.Area.{same, part}
use Rattle.area.proofs.Laws.Parts.{length_part}
use Rattle.sia.specs.Encode.{joined}
use Rattle.host.specs.Empty.{none, no_place}
use Rattle.host.specs.Places.{whose, committed, taken}
use Rattle.host.specs.Calls.{replaced}
use Rattle.host.proofs.Laws.Whose.{no-id, none_bare}
use Rattle.machine_rules.specs.View.{sector, spot_of, committed_spots}
use Rattle.machine_rules.specs.Commit.{copied_back}
use Rattle.machine_rules.proofs.Laws.Spots.{whose-every}
use Rattle.machine_rules.proofs.Laws.Split.{Split, replaced-split, taken-split}
use Rattle.machine_rules.proofs.Laws.Filling.{held, filling-outside, filling-inside, joined-each, joined-tab}
use Rattle.machine_rules.proofs.Laws.Others.{whose-other, joined-alike}
use Rattle.machine_rules.proofs.Laws.Final.{Final}
use Rattle.host.specs.declared.Place.{Place}
use Rattle.machine_rules.specs.declared.Spot.TheVariants.{OnDisk, InStage}

module _ {z disk size : ℕ} {id : List ℕ} {ps : List Place} {s : Split id ps} (f : Final z disk size id ps s) where
  -- ---- the parent's slots

  apart-aft : apart eqb (f.slots ++ taken z s.behind) ≡ true
  apart-aft = apart_out eqb [] (taken z s.before) (f.slots ++ taken z s.behind) f.own

  own : apart eqb f.slots ≡ true
  own = subst (λ (l : List ℕ). apart eqb l ≡ true) (append-nil f.slots) (apart_out eqb f.slots (taken z s.behind) []
      (subst (λ (l : List ℕ). apart eqb (f.slots ++ l) ≡ true) (sym (append-nil (taken z s.behind))) apart-aft))

  pub below : (j : ℕ) → j < size / z → get_or f.slots j 0 < disk
  below j lt = ltb-true _ _ (every_get (λ n. ltb n disk) f.slots j 0 (omega (arith, f.long))
      (every-fore _ f.slots _ (every-aft _ (taken z s.before) _ f.below)))

  -- no other contract has one of them
  pub before-unused : every (unused f.slots) (taken z s.before) ≡ true
  before-unused = fore-unused (taken z s.before) f.slots (taken z s.behind) f.own

  pub behind-unused : every (unused f.slots) (taken z s.behind) ≡ true
  behind-unused = aft-unused f.slots (taken z s.behind) apart-aft

  others-unused : every (unused f.slots) (taken z (replaced id no_place ps)) ≡ true
  others-unused =
      ap (every (unused f.slots)) (ap (taken z) (replaced-split id no_place ps s) ∙ taken-split z s.before no_place s.behind
      ∙ ap (λ (l : List ℕ). taken z s.before ++ (l ++ taken z s.behind)) (none_bare z))
      ∙ every-and _ (taken z s.before) (taken z s.behind) before-unused behind-unused

  other-unused : (other : List ℕ) → same id other ≡ false → every (unused f.slots) (committed z (whose other ps)) ≡ true
  other-unused other ne = subst (λ (q : Place). every (unused f.slots) (committed z q) ≡ true) (whose-other id other no_place ps (no-id other) ne)
      (whose-every (unused f.slots) z other (replaced id no_place ps) others-unused)

  -- ---- an area with y bytes a slot

  module _ (y : ℕ) (staged copies area : List ℕ) where
    abbrev after : List ℕ
    after = copied_back y copies staged f.slots 0 (size / z) area

    pub slot-left : (n : ℕ) → unused f.slots n ≡ true → part after (n * y) y ≡ part area (n * y) y
    slot-left n u = filling-outside y copies staged f.slots n 0 (size / z) area (λ j lo hi e. some_at n f.slots j (not-true _ u) (omega (arith, f.long)))

    -- what another contract's slots hold
    pub other-alike : (other : List ℕ) → same id other ≡ false
        → joined (sector y after []) (committed_spots z (whose other ps)) ≡ joined (sector y area []) (committed_spots z (whose other ps))
    unfolding committed_spots sector
    other-alike other ne =
        let l = committed z (whose other ps) in
        joined-each (sector y after []) OnDisk l
        ∙ joined-alike (unused f.slots) (λ n. sector y after [] (OnDisk n)) (λ n. sector y area [] (OnDisk n)) l (other-unused other ne) slot-left
        ∙ sym (joined-each (sector y area []) OnDisk l)

    -- the disk's slots lie in the area, the staged ones in the copies, and what is not staged was committed
    pub record Fits : Type 0 where
      pub room : (n : ℕ) → n < disk → n * y + y ≤ length area
      pub full : (j : ℕ) → eqb (get_or staged j none) none ≡ false → get_or staged j none * y + y ≤ length copies
      pub kept : (j : ℕ) → j < size / z → eqb (get_or staged j none) none ≡ true → j < s.it.size / z

    module _ (fits : Fits) where
      -- the slot of position j holds what the position is read as
      pub position : (j : ℕ) → j < size / z → part after (get_or f.slots j 0 * y) y ≡ sector y area copies (spot_of s.it.slots staged j)
      unfolding held sector spot_of
      position j lt =
          let t = eqb (get_or staged j none) none in
          filling-inside y copies staged f.slots 0 (size / z) area (λ a b lo m hi. distinct f.slots own a b m (omega (arith, f.long))) j
          (omega arith) (omega arith) (fits.room (get_or f.slots j 0) (below j lt)) (λ e. length_part copies _ y (fits.full j e))
          ∙ by t
          (λ e. picks t _ _ e ∙ ap (λ (n : ℕ). part area (n * y) y) (f.kept j lt (fits.kept j lt e))
          ∙ sym (ap (sector y area copies) (picks t (OnDisk (get_or s.it.slots j 0)) (InStage (get_or staged j none)) e)))
          (λ e. skips t _ _ e ∙ sym (ap (sector y area copies) (skips t (OnDisk (get_or s.it.slots j 0)) (InStage (get_or staged j none)) e)))

      -- and all of them what the parent is read as
      pub own-alike : joined (sector y after []) (each OnDisk f.slots) ≡ joined (sector y area copies) (tab 0 (size / z) (spot_of s.it.slots staged))
      unfolding sector
      own-alike =
          joined-each (sector y after []) OnDisk f.slots
          ∙ joined-tab (λ n. sector y after [] (OnDisk n)) (sector y area copies) 0 f.slots 0 (size / z) (spot_of s.it.slots staged) f.long
          (λ j m lt q. let e : j ≡ m = omega arith in position j lt ∙ ap (λ (n : ℕ). sector y area copies (spot_of s.it.slots staged n)) e)

-- The slots of a parent at its final size: those that it keeps, and new ones, of which there are enough. Assumes nothing.
use Rattle.lists.proofs.Kit.{◌≡◌, sym, ap, ◌∙◌, subst, true, List, [], ◌∷◌, ◌++◌, append_assoc, ℕ, ◌+◌, ◌-◌, ◌*◌, ◌/◌, ◌%◌, ◌≤◌, ◌<◌, min, add-mul}
use Rattle.lists.proofs.Kit.{le_of_mul-le-mul_right, arith, length, take, get_or, length-take, length-append, List·get_or-append, take_at, get_or-take, ltb, eqb}
use Rattle.lists.specs.Tests.{every, apart, count, unused}
use Rattle.lists.proofs.Laws.Pick.{picks, both_left, both_right}
use Rattle.lists.proofs.Laws.Every.{every-and, every-fore, every-aft, every_first, every_rest}
use Rattle.lists.proofs.Laws.Counts.{free-enough}
use Rattle.lists.proofs.Laws.Apart.{apart_out, apart_in}
use Rattle.area.specs.Area.{same, zeros}
use Rattle.area.proofs.Laws.Same.{same-eq}
use Rattle.host.specs.With.{with_size, with_slots}
use Rattle.host.specs.Places.{others, committed, taken}
use Rattle.host.specs.Order.{place_in_order, places_in_order}
use Rattle.host.specs.Calls.{replaced}
use Rattle.machine_rules.specs.Commit.{cut, new_slots, final_slots, final_place}
use Rattle.machine_rules.specs.Visit.{Shaped}
use Rattle.machine_rules.proofs.Laws.Copies.{whole-sectors}
use Rattle.machine_rules.proofs.Laws.Sizes.{has_same, keeps-not, place-size, others-left}
use Rattle.host.proofs.Laws.Whose.{has-held}
use Rattle.machine_rules.proofs.Laws.Slots.{Fresh, new-slots}
use Rattle.machine_rules.proofs.Laws.Split.{Split, replaced-split, taken-split, others-append, others-none}
use Rattle.machine_rules.proofs.Laws.KeptSlots.{shaped-fore, shaped-aft, cut-held, cut-within, cut-rest, cut-prefix, cut_most}
use Rattle.host.specs.declared.Place.{Place}

-- the slots of the parent after a commit
pub record Final (z disk size : ℕ) (id : List ℕ) (ps : List Place) (s : Split id ps) : Type 0 where
  pub slots : List ℕ
  pub is : final_slots z disk ps s.it size ≡ slots
  pub long : length slots ≡ size / z
  pub own : apart eqb (taken z s.before ++ (slots ++ taken z s.behind)) ≡ true
  pub below : every (λ x. ltb x disk) (taken z s.before ++ (slots ++ taken z s.behind)) ≡ true
  pub kept : (j : ℕ) → j < size / z → j < s.it.size / z → get_or slots j 0 ≡ get_or s.it.slots j 0
  pub place : committed z (final_place s.it size slots) ≡ slots

module _ (z disk size : ℕ) (id : List ℕ) (ps : List Place) (s : Split id ps) (pos : 0 < z) (few : disk ≤ 64) (o : places_in_order z disk ps ≡ true)
    (shape : Shaped ps)
    (whole : size % z ≡ 0) (fits : size + others id ps ≤ disk * z) where
  -- the slots of the places before and behind, and those that the parent keeps
  abbrev fore : List ℕ
  fore = taken z s.before

  abbrev aft : List ℕ
  aft = taken z s.behind

  unfoldable keep : List ℕ
  keep = committed z (cut size s.it)

  abbrev used : List ℕ
  used = fore ++ (keep ++ aft)

  held : s.it.held ≡ true
  held = has-held id s.it s.here

  -- ---- the places in order

  taken_is : taken z ps ≡ fore ++ (committed z s.it ++ aft)
  taken_is = ap (taken z) s.is ∙ taken-split z s.before s.it s.behind

  apart-taken : apart eqb (fore ++ (committed z s.it ++ aft)) ≡ true
  unfolding places_in_order
  apart-taken = subst (λ (l : List ℕ). apart eqb l ≡ true) taken_is (both_left _ _ (both_right _ _ (both_right _ _ o)))

  below-taken : every (λ x. ltb x disk) (fore ++ (committed z s.it ++ aft)) ≡ true
  unfolding places_in_order
  below-taken = subst (λ (l : List ℕ). every (λ x. ltb x disk) l ≡ true) taken_is (both_right _ _ (both_right _ _ (both_right _ _ o)))

  each-place : every (place_in_order z) (s.before ++ (s.it ∷ s.behind)) ≡ true
  unfolding places_in_order
  each-place = subst (λ (l : List Place). every (place_in_order z) l ≡ true) s.is (both_left _ _ o)

  shape-split : Shaped (s.before ++ (s.it ∷ s.behind))
  shape-split = subst Shaped s.is shape

  -- ---- new slots

  apart-kept : apart eqb ((fore ++ keep) ++ aft) ≡ true
  unfolding keep
  apart-kept =
      apart_out eqb (fore ++ keep) (cut-rest z size s.it) aft
      (subst (λ (l : List ℕ). apart eqb l ≡ true)
      (ap (λ (l : List ℕ). fore ++ (l ++ aft)) (cut-prefix z size s.it pos held)
      ∙ ap (λ (l : List ℕ). fore ++ l) (append_assoc keep (cut-rest z size s.it) aft) ∙ sym (append_assoc fore keep (cut-rest z size s.it ++ aft)))
      apart-taken)

  -- how many slots the others have
  others-are : others id ps ≡ length fore * z + length aft * z
  others-are =
      let a = others-none z id s.before s.not-before (every-fore _ s.before _ each-place) (shaped-fore s.before _ shape-split) in
      let b = others-none z id s.behind s.not_behind (every_rest _ s.it s.behind (every-aft _ s.before _ each-place))
      (shaped-aft s.before _ shape-split).1 in
      ap (others id) s.is ∙ others-append id s.before (s.it ∷ s.behind)
      ∙ omega (arith, a, b, others-left id s.it s.behind (keeps-not s.it.held (same s.it.id id) (has_same id s.it s.here)))

  keep-most : length keep ≤ size / z
  unfolding keep
  keep-most = cut_most z size s.it pos held

  enough : size / z - length keep ≤ count (unused used) 0 disk
  enough =
      let d : size / z + (length fore + length aft) ≤ disk =
      le_of_mul-le-mul_right {m = size / z + (length fore + length aft)} {n = disk} {k = z}
      (omega (
        arith,
        fits,
        others-are,
        whole-sectors z size whole,
        add-mul (size / z) (length fore + length aft) z,
        add-mul (length fore) (length aft) z,
      )) pos in
      omega (arith, d, keep-most, free-enough disk used, length-append fore (keep ++ aft), length-append keep aft)

  unfoldable new : List ℕ
  new = new_slots disk used (size / z - length keep)

  is-fresh : Fresh disk used (size / z - length keep) new
  unfolding new
  is-fresh = new-slots disk (size / z - length keep) used enough

  -- ---- all of them

  length-final : length (keep ++ new) ≡ size / z
  length-final = omega (arith, length-append keep new, is-fresh.many, keep-most)

  committed-final : committed z (final_place s.it size (keep ++ new)) ≡ keep ++ new
  unfolding committed final_place with_slots with_size
  committed-final = picks s.it.held (take (size / z) ((keep ++ new) ++ zeros (64 - length (keep ++ new)))) [] held
      ∙ take_at (keep ++ new) _ (size / z) length-final

  apart-final : apart eqb (fore ++ ((keep ++ new) ++ aft)) ≡ true
  apart-final =
      subst (λ (l : List ℕ). apart eqb l ≡ true)
      (append_assoc fore keep (new ++ aft) ∙ ap (λ (l : List ℕ). fore ++ l) (sym (append_assoc keep new aft)))
      (apart_in (fore ++ keep) new aft apart-kept is-fresh.own
      (subst (λ (l : List ℕ). every (unused l) new ≡ true) (sym (append_assoc fore keep aft)) is-fresh.unused))

  below-final : every (λ x. ltb x disk) (fore ++ ((keep ++ new) ++ aft)) ≡ true
  unfolding keep
  below-final =
      let rest = every-aft _ fore _ below-taken in
      let mine = subst (λ (l : List ℕ). every (λ x. ltb x disk) l ≡ true) (cut-prefix z size s.it pos held) (every-fore _ (committed z s.it) _ rest) in
      every-and _ fore _ (every-fore _ fore _ below-taken)
      (every-and _ (keep ++ new) _ (every-and _ keep new (every-fore _ keep (cut-rest z size s.it) mine) is-fresh.within)
      (every-aft _ (committed z s.it) _ rest))

  -- the slots that `commit` works out are these
  final-is : final_slots z disk ps s.it size ≡ keep ++ new
  unfolding final_slots keep new
  final-is =
      let e : s.it.id ≡ id = same-eq s.it.id id (has_same id s.it s.here) in
      ap (λ (l : List ℕ). committed z (cut size s.it) ++ new_slots disk l (size / z - length (committed z (cut size s.it))))
      (ap (λ (i : List ℕ). taken z (replaced i (cut size s.it) ps)) e ∙ ap (taken z) (replaced-split id (cut size s.it) ps s)
      ∙ taken-split z s.before (cut size s.it) s.behind)

  kept_slot : (j : ℕ) → j < size / z → j < s.it.size / z → get_or (keep ++ new) j 0 ≡ get_or s.it.slots j 0
  unfolding keep
  kept_slot j lo hi =
      let e = cut-held z size s.it held in
      let n = cut-within z size s.it.size j pos lo hi in
      let small = (place-size z s.it (every_first _ s.it s.behind (every-aft _ s.before _ each-place)) held).1 in
      let long : j < length (take (min s.it.size size / z) s.it.slots) =
      omega (arith, length-take (min s.it.size size / z) s.it.slots, (shaped-aft s.before _ shape-split).0, n, small) in
      List·get_or-append (committed z (cut size s.it)) new 0 j (omega (arith, ap length e)) ∙ ap (λ (l : List ℕ). get_or l j 0) e
      ∙ get_or-take (min s.it.size size / z) s.it.slots j 0 n

  pub final : Final z disk size id ps s
  final = record { slots = keep ++ new; is = final-is; long = length-final; own = apart-final; below = below-final; kept = kept_slot; place = committed-final }

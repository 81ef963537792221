-- Sizes of contracts in order: whole sectors, and together no more than their slots. Assumes nothing.
use Rattle.lists.proofs.Kit.{◌≡◌, refl, sym, ap, ◌∙◌, subst, Bool, true, false, not, List, [], ◌∷◌, ℕ, ◌+◌, ◌*◌, ◌/◌, ◌%◌, ◌≤◌, add-mul, zero-mod, arith}
use Rattle.lists.proofs.Kit.{length, take, length-append, length-take-le, eqb, not-true, leb-true, eqb-true}
use Rattle.lists.specs.Pick.{pick, both}
use Rattle.lists.specs.Tests.{every, each, sum}
use Rattle.lists.proofs.Laws.Pick.{by, picks, skips, never, both_left, both_right, both-join, second-not}
use Rattle.area.specs.Area.{same}
use Rattle.area.proofs.Laws.Same.{same-eq}
use Rattle.sia.specs.Names.{read_only}
use Rattle.sia.specs.Encode.{joined}
use Rattle.host.specs.Empty.{no_place}
use Rattle.host.specs.Places.{has_id, whose, own_size, others, committed, taken}
use Rattle.host.specs.Order.{place_in_order, parent_in_order}
use Rattle.host.proofs.Laws.Whose.{has-none, has-held}
use Rattle.machine_rules.specs.Visit.{Shaped}
use Rattle.machine_rules.proofs.Laws.Copies.{whole-sectors}
use Rattle.machine_rules.proofs.Laws.Spots.{whose-nobody}
use Rattle.host.specs.declared.Place.{Place}

pub has-id : (id : List ℕ) (p : Place) → p.held ≡ true → same p.id id ≡ true → has_id id p ≡ true
unfolding has_id
has-id id p e f = both-join _ _ e f

pub has-not : (id : List ℕ) (p : Place) → same p.id id ≡ false → has_id id p ≡ false
unfolding has_id pick
has-not id p f = under p.held
  where
    under : (b : Bool) → pick b (same p.id id) false ≡ false
    under true = f
    under false = refl

pub keeps-not : (a b : Bool) → b ≡ true → both a (not b) ≡ false
unfolding pick
keeps-not true b f = ap not f
keeps-not false b f = refl

-- ---- sizes

pub place-size : (z : ℕ) (p : Place) → place_in_order z p ≡ true → p.held ≡ true → (p.size % z ≡ 0) × (p.size / z ≤ 64) × (same p.id read_only ≡ false)
unfolding place_in_order
place-size z p h e =
    let q = second-not p.held _ h e in
    let r = both_right _ _ q in
    (eqb-true _ _ (both_left _ _ r), leb-true _ _ (both_right _ _ r), not-true _ (both_left _ _ q))

pub committed-bytes : (z : ℕ) (p : Place) → place_in_order z p ≡ true → length p.slots ≡ 64 → p.held ≡ true → length (committed z p) * z ≡ p.size
unfolding committed
committed-bytes z p h l e =
    let q = place-size z p h e in
    ap (λ (n : ℕ). n * z) (ap length (picks p.held (take (p.size / z) p.slots) [] e)
    ∙ length-take-le (p.size / z) p.slots (omega (arith, q.1))) ∙ whole-sectors z p.size q.0

pub others-kept : (id : List ℕ) (p : Place) (ps : List Place) → both p.held (not (same p.id id)) ≡ true → others id (p ∷ ps) ≡ p.size + others id ps
unfolding others own_size each sum
others-kept id p ps e = ap (λ (n : ℕ). n + others id ps) (picks (both p.held (not (same p.id id))) _ _ e)

pub others-left : (id : List ℕ) (p : Place) (ps : List Place) → both p.held (not (same p.id id)) ≡ false → others id (p ∷ ps) ≡ 0 + others id ps
unfolding others own_size each sum
others-left id p ps e = ap (λ (n : ℕ). n + others id ps) (skips (both p.held (not (same p.id id))) _ _ e)

pub whose-here : (id : List ℕ) (p : Place) (ps : List Place) → has_id id p ≡ true → whose id (p ∷ ps) ≡ p
unfolding whose
whose-here id p ps e = picks (has_id id p) p _ e

pub whose-on : (id : List ℕ) (p : Place) (ps : List Place) → has_id id p ≡ false → whose id (p ∷ ps) ≡ whose id ps
unfolding whose
whose-on id p ps e = skips (has_id id p) p _ e

pub taken-length : (z : ℕ) (p : Place) (ps : List Place) → length (taken z (p ∷ ps)) * z ≡ length (committed z p) * z + length (taken z ps) * z
unfolding taken joined
taken-length z p ps = ap (λ (n : ℕ). n * z) (length-append (committed z p) _) ∙ add-mul (length (committed z p)) _ z

sizes-none : (id : List ℕ) → (whose id []).size + others id [] ≡ 0
unfolding whose no_place others own_size each sum
sizes-none id = refl

pub sizes : (z : ℕ) (id : List ℕ) (ps : List Place) → every (place_in_order z) ps ≡ true → Shaped ps → (whose id ps).size + others id ps ≤ length (taken z ps) * z
unfolding every
sizes z id [] h s = omega (arith, sizes-none id)
sizes z id (p ∷ ps) h s =
    let ih = sizes z id ps (both_right _ _ h) s.1 in
    let tl = taken-length z p ps in
    by p.held
    (λ e. let cb = committed-bytes z p (both_left _ _ h) s.0 e in
    by (same p.id id)
    (λ f. omega (
      arith,
      ih,
      tl,
      cb,
      ap (λ (x : Place). x.size) (whose-here id p ps (has-id id p e f)),
      others-left id p ps (keeps-not p.held (same p.id id) f),
    ))
    (λ f. omega (arith, ih, tl, cb, ap (λ (x : Place). x.size) (whose-on id p ps (has-not id p f)), others-kept id p ps (both-join _ _ e (ap not f)))))
    (λ e. omega (arith, ih, tl, ap (λ (x : Place). x.size) (whose-on id p ps (has-none id p e)), others-left id p ps (skips p.held _ false e)))

no-place-whole : (z : ℕ) (id : List ℕ) → (whose id []).size % z ≡ 0
unfolding whose no_place
no-place-whole z id = zero-mod z

pub has_same : (id : List ℕ) (p : Place) → has_id id p ≡ true → same p.id id ≡ true
unfolding has_id
has_same id p e = both_right _ _ e

-- the parent's size is whole sectors
pub whose-whole : (z : ℕ) (id : List ℕ) (ps : List Place) → every (place_in_order z) ps ≡ true → (whose id ps).size % z ≡ 0
unfolding every
whose-whole z id [] h = no-place-whole z id
whose-whole z id (p ∷ ps) h =
    by (has_id id p)
    (λ e. ap (λ (x : Place). x.size % z) (whose-here id p ps e) ∙ (place-size z p (both_left _ _ h) (has-held id p e)).0)
    (λ e. ap (λ (x : Place). x.size % z) (whose-on id p ps e) ∙ whose-whole z id ps (both_right _ _ h))

-- no contract has the ReadOnly word
pub read-only-free : (z : ℕ) (id : List ℕ) (ps : List Place) → every (place_in_order z) ps ≡ true → same id read_only ≡ true → (whose id ps).held ≡ false
unfolding every whose no_place
read-only-free z id [] h w = refl
read-only-free z id (p ∷ ps) h w =
    by (has_id id p)
    (λ e. never (sym w ∙ subst (λ (x : List ℕ). same x read_only ≡ false) (same-eq p.id id (has_same id p e))
    (place-size z p (both_left _ _ h) (has-held id p e)).2))
    (λ e. ap (λ (x : Place). x.held) (whose-on id p ps e) ∙ read-only-free z id ps (both_right _ _ h) w)

pub read-only-size : (z : ℕ) (id : List ℕ) (ps : List Place) → every (place_in_order z) ps ≡ true → same id read_only ≡ true → (whose id ps).size ≡ 0
read-only-size z id ps h w = whose-nobody id ps (read-only-free z id ps h w)

-- nothing is read in read-only mode, nor of a parent that is not held
pub read-only-reached : (ps : List Place) (c : List ℕ) (size : ℕ) → parent_in_order ps c size ≡ true → same c read_only ≡ true → size ≡ 0
unfolding parent_in_order
read-only-reached ps c size e w = eqb-true size 0 (sym (picks (same c read_only) (eqb size 0) (whose c ps).held w) ∙ e)

pub nothing-reached : (ps : List Place) (c : List ℕ) (size : ℕ) → parent_in_order ps c size ≡ true → (whose c ps).held ≡ false → size ≡ 0
unfolding parent_in_order
nothing-reached ps c size e free =
    by (same c read_only) (read-only-reached ps c size e)
    (λ w. never (sym e ∙ skips (same c read_only) (eqb size 0) (whose c ps).held w ∙ free))

-- The one place of an id among places in order, and what replacing it does to slots and sizes. Assumes nothing.
use Rattle.lists.proofs.Kit.{◌≡◌, refl, sym, ap, ap₂, ◌∙◌, Bool, true, false, not, List, [], ◌∷◌, ◌++◌, append_assoc, ℕ, ◌+◌, ◌*◌}
use Rattle.lists.proofs.Kit.{zero-mul, arith, length}
use Rattle.lists.proofs.Kit.{not-true}
use Rattle.lists.specs.Pick.{pick, both, either}
use Rattle.lists.specs.Tests.{every, some, each, apart, sum}
use Rattle.lists.proofs.Laws.Pick.{by, picks, skips, never, both_left, both_right, both-join, either_left, either-right}
use Rattle.lists.proofs.Laws.Every.{every-none, every-cons}
use Rattle.lists.proofs.Laws.Apart.{tail_apart}
use Rattle.area.specs.Area.{same}
use Rattle.area.proofs.Laws.Same.{same-eq, eq-same}
use Rattle.sia.specs.Encode.{joined}
use Rattle.host.specs.Empty.{no_place}
use Rattle.host.specs.Places.{has_id, whose, own_size, others, committed, taken}
use Rattle.host.specs.Order.{place_in_order, twins}
use Rattle.host.specs.Calls.{replaced}
use Rattle.machine_rules.specs.Visit.{Shaped}
use Rattle.machine_rules.proofs.Laws.Sizes.{has-id, has_same, whose-here, whose-on, others-kept, others-left, taken-length, committed-bytes}
use Rattle.host.proofs.Laws.Whose.{has-held}
use Rattle.host.specs.declared.Place.{Place}

are-twins : (id : List ℕ) (p q : Place) → has_id id p ≡ true → has_id id q ≡ true → twins p q ≡ true
unfolding twins
are-twins id p q u v =
    both-join _ _ (has-held id p u)
    (both-join _ _ (has-held id q v) (eq-same _ _ (same-eq p.id id (has_same id p u) ∙ sym (same-eq q.id id (has_same id q v)))))

pub none_has : (id : List ℕ) (p : Place) (ps : List Place) → has_id id p ≡ true → some (twins p) ps ≡ false → every (λ q. not (has_id id q)) ps ≡ true
unfolding every some
none_has id p [] u h = refl
none_has id p (q ∷ qs) u h =
    by (has_id id q)
    (λ v. never (sym (are-twins id p q u v) ∙ either_left _ _ h))
    (λ v. both-join _ _ (ap not v) (none_has id p qs u (either-right _ _ h)))

-- twins go by held and id alone
twins-left : (x y q : Place) → x.held ≡ y.held → x.id ≡ y.id → twins x q ≡ twins y q
unfolding twins
twins-left x y q a b = λ i. both (a i) (both q.held (same (b i) q.id))

twins-right : (p x y : Place) → x.held ≡ y.held → x.id ≡ y.id → twins p x ≡ twins p y
unfolding twins
twins-right p x y a b = λ i. both p.held (both (a i) (same p.id (b i)))

some_left : (x y : Place) (m : List Place) → x.held ≡ y.held → x.id ≡ y.id → some (twins x) m ≡ some (twins y) m
unfolding some
some_left x y [] a b = refl
some_left x y (q ∷ m) a b = ap₂ either (twins-left x y q a b) (some_left x y m a b)

some_right : (p x y : Place) (l m : List Place) → x.held ≡ y.held → x.id ≡ y.id → some (twins p) (l ++ (x ∷ m)) ≡ some (twins p) (l ++ (y ∷ m))
unfolding some
some_right p x y [] m a b = ap (λ (t : Bool). either t (some (twins p) m)) (twins-right p x y a b)
some_right p x y (q ∷ l) m a b = ap (λ (t : Bool). either (twins p q) t) (some_right p x y l m a b)

pub apart-alike : (l : List Place) (x y : Place) (m : List Place) → x.held ≡ y.held → x.id ≡ y.id → apart twins (l ++ (x ∷ m)) ≡ apart twins (l ++ (y ∷ m))
unfolding apart
apart-alike [] x y m a b = ap (λ (t : Bool). both (not t) (apart twins m)) (some_left x y m a b)
apart-alike (p ∷ l) x y m a b = ap₂ (λ (t u : Bool). both (not t) u) (some_right p x y l m a b) (apart-alike l x y m a b)

pub record Split (id : List ℕ) (ps : List Place) : Type 0 where
  pub before : List Place
  pub it : Place
  pub behind : List Place
  pub is : ps ≡ before ++ (it ∷ behind)
  pub here : has_id id it ≡ true
  pub not-before : every (λ q. not (has_id id q)) before ≡ true
  pub not_behind : every (λ q. not (has_id id q)) behind ≡ true
  pub whose-is : whose id ps ≡ it

no-held : (id : List ℕ) → (whose id []).held ≡ false
unfolding whose no_place
no-held id = refl

pub split : (id : List ℕ) (ps : List Place) → apart twins ps ≡ true → (whose id ps).held ≡ true → Split id ps
split id [] a h = never (sym h ∙ no-held id)
split id (p ∷ ps) a h =
    let q = tail_apart twins p ps a in
    by (has_id id p)
    (λ e. record {
      before = [];
      it = p;
      behind = ps;
      is = refl;
      here = e;
      not-before = every-none _;
      not_behind = none_has id p ps e q.0;
      whose-is = whose-here id p ps e;
    })
    (λ e. let r = split id ps q.1 (sym (ap (λ (x : Place). x.held) (whose-on id p ps e)) ∙ h) in
    record {
      before = p ∷ r.before;
      it = r.it;
      behind = r.behind;
      is = ap (λ (l : List Place). p ∷ l) r.is;
      here = r.here;
      not-before = every-cons _ p r.before (ap not e) r.not-before;
      not_behind = r.not_behind;
      whose-is = whose-on id p ps e ∙ r.whose-is;
    })

-- ---- lists of places in two parts

pub replaced-none : (id : List ℕ) (x : Place) (ps : List Place) → every (λ q. not (has_id id q)) ps ≡ true → replaced id x ps ≡ ps
unfolding replaced each every
replaced-none id x [] h = refl
replaced-none id x (p ∷ ps) h = ap₂ ◌∷◌ (skips (has_id id p) x p (not-true _ (both_left _ _ h))) (replaced-none id x ps (both_right _ _ h))

replaced-append : (id : List ℕ) (x : Place) (l m : List Place) → replaced id x (l ++ m) ≡ replaced id x l ++ replaced id x m
unfolding replaced each
replaced-append id x [] m = refl
replaced-append id x (p ∷ ps) m = ap (λ (r : List Place). pick (has_id id p) x p ∷ r) (replaced-append id x ps m)

replaced-here : (id : List ℕ) (x p : Place) (ps : List Place) → has_id id p ≡ true → replaced id x (p ∷ ps) ≡ x ∷ replaced id x ps
unfolding replaced each
replaced-here id x p ps e = ap (λ (q : Place). q ∷ each (λ r. pick (has_id id r) x r) ps) (picks (has_id id p) x p e)

pub replaced-split : (id : List ℕ) (x : Place) (ps : List Place) (s : Split id ps) → replaced id x ps ≡ s.before ++ (x ∷ s.behind)
replaced-split id x ps s =
    ap (λ (l : List Place). replaced id x l) s.is ∙ replaced-append id x s.before (s.it ∷ s.behind)
    ∙ ap₂ ◌++◌ (replaced-none id x s.before s.not-before) (replaced-here id x s.it s.behind s.here
    ∙ ap (λ (l : List Place). x ∷ l) (replaced-none id x s.behind s.not_behind))

pub taken-split : (z : ℕ) (l : List Place) (x : Place) (m : List Place) → taken z (l ++ (x ∷ m)) ≡ taken z l ++ (committed z x ++ taken z m)
unfolding taken joined
taken-split z [] x m = refl
taken-split z (p ∷ l) x m = ap (λ (r : List ℕ). committed z p ++ r) (taken-split z l x m) ∙ sym (append_assoc (committed z p) (joined (committed z) l) _)

others-nil : (id : List ℕ) → others id [] ≡ 0
unfolding others own_size each sum
others-nil id = refl

taken-nil : (z : ℕ) → length (taken z []) * z ≡ 0
unfolding taken joined
taken-nil z = zero-mul z

committed-free : (z : ℕ) (p : Place) → p.held ≡ false → committed z p ≡ []
unfolding committed
committed-free z p e = skips p.held _ [] e

not_same : (id : List ℕ) (p : Place) → p.held ≡ true → has_id id p ≡ false → same p.id id ≡ false
not_same id p e h = by (same p.id id) (λ u. never (sym (has-id id p e u) ∙ h)) (λ u. u)

pub others-append : (id : List ℕ) (l m : List Place) → others id (l ++ m) ≡ others id l + others id m
others-append id [] m = omega (arith, others-nil id)
others-append id (p ∷ l) m =
    by (both p.held (not (same p.id id)))
    (λ u. omega (arith, others-kept id p (l ++ m) u, others-kept id p l u, others-append id l m))
    (λ u. omega (arith, others-left id p (l ++ m) u, others-left id p l u, others-append id l m))

-- the sizes of places without the id are those of their slots
pub others-none : (z : ℕ) (id : List ℕ) (l : List Place) → every (λ q. not (has_id id q)) l ≡ true → every (place_in_order z) l ≡ true → Shaped l
    → others id l ≡ length (taken z l) * z
unfolding every
others-none z id [] h k s = others-nil id ∙ sym (taken-nil z)
others-none z id (p ∷ l) h k s =
    let ih = others-none z id l (both_right _ _ h) (both_right _ _ k) s.1 in
    let tl = taken-length z p l in
    by p.held
    (λ e. omega (
      arith,
      ih,
      tl,
      committed-bytes z p (both_left _ _ k) s.0 e,
      others-kept id p l
          (both-join _ _ e (ap not (not_same id p e (not-true _ (both_left _ _ h))))),
    ))
    (λ e. omega (arith, ih, tl, others-left id p l (skips p.held _ false e), ap (λ (l : List ℕ). length l * z) (committed-free z p e), zero-mul z))

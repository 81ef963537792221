-- Making a host, forming a contract and dropping one leave a host in order: a new place takes no slot and no id that is there, and a place
-- that is left out leaves the others as they were. Assumes nothing.
use Rattle.lists.proofs.Kit.{◌≡◌, refl, sym, ap, ◌∙◌, subst, Bool, true, false, not, List, [], ◌∷◌, ◌++◌, ℕ, ◌/◌, zero-div, zero-mod, arith}
use Rattle.lists.proofs.Kit.{ltb, eqb, not-true, not-false, eq-eqb, le-leb}
use Rattle.lists.specs.Pick.{pick, both}
use Rattle.lists.specs.Tests.{every, some, apart}
use Rattle.lists.proofs.Laws.Pick.{by, picks, skips, never, both_left, both_right, both-join, both-not-left, both-not-right, either-join}
use Rattle.lists.proofs.Laws.Ways.{either_way}
use Rattle.lists.proofs.Laws.Every.{every-and, every-fore, every-aft, every_rest, every-cons}
use Rattle.lists.proofs.Laws.Some.{some-and, some-fore, some-aft}
use Rattle.lists.proofs.Laws.Apart.{tail_apart, join_apart, apart_out}
use Rattle.area.specs.Area.{same}
use Rattle.area.proofs.Laws.Same.{same-eq, same_refl}
use Rattle.sia.specs.Names.{read_only}
use Rattle.host.specs.Empty.{no_place, new_place}
use Rattle.host.specs.With.{with_places}
use Rattle.host.specs.Places.{has_id, whose, committed, taken}
use Rattle.host.specs.Order.{place_in_order, twins, places_in_order, in_order}
use Rattle.host.specs.Calls.{padded, formed_at, formed, replaced, dropped}
use Rattle.host.proofs.Laws.Order.{contracts-facts, facts-contracts}
use Rattle.machine_rules.proofs.Laws.Split.{split, replaced-split, taken-split}
use Rattle.machine_rules.proofs.Laws.KeptSlots.{none_of}
use Rattle.host.proofs.Laws.Whose.{none_bare, none-order, new-bare}
use Rattle.host.specs.declared.Place.{Place}
use Rattle.host.specs.declared.Host.{Host}
use Rattle.host.specs.Calls.{Made}

-- ---- one place among others

some-cons : (p x : Place) (m : List Place) → twins p x ≡ false → some (twins p) m ≡ false → some (twins p) (x ∷ m) ≡ false
unfolding some
some-cons p x m a b = either-join _ _ a b

-- a place that is no twin of any other may stand among them
apart-with : (l : List Place) (x : Place) (m : List Place) → apart twins (l ++ m) ≡ true → some (twins x) m ≡ false → every (λ q. not (twins q x)) l ≡ true
    → apart twins (l ++ (x ∷ m)) ≡ true
unfolding every
apart-with [] x m h s e = join_apart twins x m s h
apart-with (p ∷ l) x m h s e =
    let t = tail_apart twins p (l ++ m) h in
    join_apart twins p (l ++ (x ∷ m))
    (some-and (twins p) l (x ∷ m) (some-fore (twins p) l m t.0) (some-cons p x m (not-true _ (both_left _ _ e)) (some-aft (twins p) l m t.0)))
    (apart-with l x m t.1 s (both_right _ _ e))

-- what a place is that stands for another: in order, without a slot, and no twin of the others
record Stands (z : ℕ) (l : List Place) (x : Place) (m : List Place) : Type 0 where
  order : place_in_order z x ≡ true
  pub bare : committed z x ≡ []
  behind : some (twins x) m ≡ false
  before : every (λ q. not (twins q x)) l ≡ true

stand : (z disk : ℕ) (l : List Place) (y x : Place) (m : List Place) → Stands z l x m → places_in_order z disk (l ++ (y ∷ m)) ≡ true
    → places_in_order z disk (l ++ (x ∷ m)) ≡ true
stand z disk l y x m s h =
    let o = contracts-facts z disk _ h in
    let was = taken-split z l y m in
    let is = taken-split z l x m ∙ ap (λ (c : List ℕ). taken z l ++ (c ++ taken z m)) s.bare in
    let below = subst (λ (n : List ℕ). every (λ k. ltb k disk) n ≡ true) was o.below in
    facts-contracts z disk _ (record {
      each = every-and _ l (x ∷ m) (every-fore _ l _ o.each) (every-cons _ x m s.order (every_rest _ y m (every-aft _ l _ o.each)));
      differ = apart-with l x m (apart_out twins l (y ∷ []) m o.differ) s.behind s.before;
      own = ap (apart eqb) is ∙ apart_out eqb (taken z l) (committed z y) (taken z m) (ap (apart eqb) (sym was) ∙ o.own);
      below = ap (every (λ k. ltb k disk)) is ∙ every-and _ (taken z l) (taken z m) (every-fore _ (taken z l) _ below)
          (every-aft _ (committed z y) _ (every-aft _ (taken z l) _ below));
    })

-- ---- dropping

none-behind : (m : List Place) → some (twins no_place) m ≡ false
unfolding some twins no_place pick
none-behind [] = refl
none-behind (q ∷ m) = none-behind m

none_before : (l : List Place) → every (λ q. not (twins q no_place)) l ≡ true
unfolding every twins no_place
none_before [] = refl
none_before (q ∷ l) = both-join _ _ (ap not (both-not-right q.held _ (both-not-left false _ refl))) (none_before l)

none-stands : (z : ℕ) (l m : List Place) → Stands z l no_place m
none-stands z l m = record { order = none-order z; bare = none_bare z; behind = none-behind m; before = none_before l }

-- ---- forming

new-order : (z : ℕ) (id : List ℕ) → same id read_only ≡ false → place_in_order z (new_place id) ≡ true
unfolding place_in_order new_place
new-order z id e =
    skips (not true) true _ refl
    ∙ both-join _ _ (ap not e) (both-join _ _ (eq-eqb _ 0 (zero-mod z)) (le-leb (0 / z) 64 (omega (arith, zero-div z))))

same-turned : (a b : List ℕ) → same a b ≡ false → same b a ≡ false
same-turned a b e = by (same b a) (λ u. never (sym (same_refl b) ∙ ap (λ (x : List ℕ). same x b) (same-eq b a u) ∙ e)) (λ u. u)

new-twin : (id : List ℕ) (q : Place) → has_id id q ≡ false → twins (new_place id) q ≡ false
unfolding twins new_place has_id
new-twin id q e =
    by q.held
    (λ u. picks true _ false refl ∙ picks q.held _ false u ∙ same-turned q.id id (sym (picks q.held (same q.id id) false u) ∙ e))
    (λ u. picks true _ false refl ∙ skips q.held _ false u)

twin-new : (id : List ℕ) (q : Place) → has_id id q ≡ false → twins q (new_place id) ≡ false
unfolding twins new_place has_id
twin-new id q e = ap (λ (b : Bool). both q.held b) (picks true (same q.id id) false refl) ∙ e

new-behind : (id : List ℕ) (m : List Place) → every (λ q. not (has_id id q)) m ≡ true → some (twins (new_place id)) m ≡ false
unfolding some every
new-behind id [] h = refl
new-behind id (q ∷ m) h = either-join _ _ (new-twin id q (not-true _ (both_left _ _ h))) (new-behind id m (both_right _ _ h))

new-before : (id : List ℕ) (l : List Place) → every (λ q. not (has_id id q)) l ≡ true → every (λ q. not (twins q (new_place id))) l ≡ true
unfolding every
new-before id [] h = refl
new-before id (q ∷ l) h = both-join _ _ (ap not (twin-new id q (not-true _ (both_left _ _ h)))) (new-before id l (both_right _ _ h))

-- "the lowest free place": the first that is not held, and what forming makes of it
record Free (id : List ℕ) (ps : List Place) : Type 0 where
  before : List Place
  it : Place
  behind : List Place
  is : ps ≡ before ++ (it ∷ behind)
  made : formed_at id ps ≡ before ++ (new_place id ∷ behind)

free : (id : List ℕ) (ps : List Place) → some (λ p. not p.held) ps ≡ true → Free id ps
unfolding some formed_at
free id [] h = never (sym h)
free id (p ∷ ps) h =
    by p.held
    (λ e. let r = free id ps (sym (skips (not p.held) true _ (ap not e)) ∙ h) in
    record {
      before = p ∷ r.before;
      it = r.it;
      behind = r.behind;
      is = ap (λ (l : List Place). p ∷ l) r.is;
      made = picks p.held _ _ e ∙ ap (λ (l : List Place). p ∷ l) r.made;
    })
    (λ e. record { before = []; it = p; behind = ps; is = refl; made = skips p.held _ _ e })

-- ---- the calls

-- a host in order without a program, with other places in order
idle : (h : Host) (ps : List Place) → in_order h ≡ true → h.program.active ≡ false → places_in_order h.sector h.disk ps ≡ true
    → in_order (with_places h ps) ≡ true
unfolding in_order with_places
idle h ps o a q =
    let b = both_right _ _ o in
    let c = both_right _ _ b in
    both-join _ _ (both_left _ _ o) (both-join _ _ (both_left _ _ b) (both-join _ _ (both_left _ _ c)
    (both-join _ _ q (picks (not h.program.active) true _ (ap not a)))))

in-places : (h : Host) → in_order h ≡ true → places_in_order h.sector h.disk h.places ≡ true
unfolding in_order
in-places h o = both_left _ _ (both_right _ _ (both_right _ _ (both_right _ _ o)))

formed-places : (z disk : ℕ) (id : List ℕ) (ps : List Place) → same id read_only ≡ false → (whose id ps).held ≡ false → some (λ p. not p.held) ps ≡ true
    → places_in_order z disk ps ≡ true → places_in_order z disk (formed_at id ps) ≡ true
formed-places z disk id ps word absent room o =
    let f = free id ps room in
    let none = subst (λ (l : List Place). every (λ q. not (has_id id q)) l ≡ true) f.is (none_of id ps absent) in
    ap (places_in_order z disk) f.made
    ∙ stand z disk f.before f.it (new_place id) f.behind
    (record {
      order = new-order z id word;
      bare = new-bare z id;
      behind = new-behind id f.behind (every_rest _ f.it f.behind (every-aft _ f.before _ none));
      before = new-before id f.before (every-fore _ f.before _ none);
    })
    (ap (places_in_order z disk) (sym f.is) ∙ o)

dropped-places : (z disk : ℕ) (id : List ℕ) (ps : List Place) → (whose id ps).held ≡ true → places_in_order z disk ps ≡ true
    → places_in_order z disk (replaced id no_place ps) ≡ true
dropped-places z disk id ps there o =
    let s = split id ps (contracts-facts z disk ps o).differ there in
    ap (places_in_order z disk) (replaced-split id no_place ps s)
    ∙ stand z disk s.before s.it no_place s.behind (none-stands z s.before s.behind) (ap (places_in_order z disk) (sym s.is) ∙ o)

abbrev pub Fine : Made → Type 0
Fine r = in_order r.host ≡ true

pub forming : (h : Host) (id : List ℕ) → in_order h ≡ true → Fine (formed h id)
unfolding formed
forming h id o =
    either_way Fine (not (in_order h)) _ _ (λ e. o) (λ e.
    either_way Fine h.program.active _ _ (λ e. o) (λ idling.
    either_way Fine (same id read_only) _ _ (λ e. o) (λ word.
    either_way Fine (padded id) _ _ (λ e. o) (λ e.
    either_way Fine (whose id h.places).held _ _ (λ e. o) (λ absent.
    either_way Fine (not (some (λ p. not p.held) h.places)) _ _ (λ e. o) (λ room.
    idle h _ o idling (formed-places h.sector h.disk id h.places word absent (not-false _ room) (in-places h o))))))))

pub dropping : (h : Host) (id : List ℕ) → in_order h ≡ true → Fine (dropped h id)
unfolding dropped
dropping h id o =
    either_way Fine (not (in_order h)) _ _ (λ e. o) (λ e.
    either_way Fine h.program.active _ _ (λ e. o) (λ idling.
    either_way Fine (same id read_only) _ _ (λ e. o) (λ word.
    either_way Fine (not (whose id h.places).held) _ _ (λ e. o) (λ there.
    idle h _ o idling (dropped-places h.sector h.disk id h.places (not-false _ there) (in-places h o))))))

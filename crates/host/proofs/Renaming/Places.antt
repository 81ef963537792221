-- The record of a host under new ids: ids come in only where they are compared, with each other and with the ReadOnly word, so every test of
-- a place, of places and of order is as it was. Assumes nothing.
use Rattle.lists.proofs.Kit.{◌≡◌, refl, sym, ap, ap₂, ◌∙◌, Bool, true, false, not, List, [], ◌∷◌, ◌++◌, ℕ, ◌+◌, ◌/◌, ◌%◌, leb, ltb, eqb}
use Rattle.lists.specs.Pick.{pick, both, either}
use Rattle.lists.specs.Tests.{every, some, each, apart, sum}
use Rattle.lists.proofs.Laws.Pick.{by, picks, skips}
use Rattle.area.specs.Area.{same}
use Rattle.sia.specs.Names.{read_only}
use Rattle.sia.specs.Encode.{joined, within}
use Rattle.host.specs.Empty.{no_place}
use Rattle.host.specs.Places.{has_id, whose, own_size, others, committed, taken}
use Rattle.host.specs.Sizes.{is_size}
use Rattle.host.specs.Order.{lent, place_in_order, twins, places_in_order, parent_in_order, terms_in_order, progress_in_order, program_in_order, in_order}
use Rattle.host.specs.Calls.{replaced}
use Rattle.host.specs.Renaming.{Renaming, place_as, terms_as, program_as, host_as}
use Rattle.host.specs.declared.Place.{Place}
use Rattle.host.specs.declared.Terms.{Terms}
use Rattle.host.specs.declared.Progress.{Progress}
use Rattle.host.specs.declared.Program.{Program}
use Rattle.host.specs.declared.Host.{Host}

module _ (r : List ℕ → List ℕ) (new : Renaming r) where
  -- ---- one place

  -- no other id is the ReadOnly word
  pub word-as : (id : List ℕ) → same (r id) read_only ≡ same id read_only
  word-as id = ap (same (r id)) (sym new.word) ∙ new.differ id read_only

  -- the id of a contract
  pub id-as : (p : Place) → p.held ≡ true → (place_as r p).id ≡ r p.id
  id-as p e = picks p.held (r p.id) p.id e

  -- a place that is chosen
  pushed : (b : Bool) (x y : Place) → place_as r (pick b x y) ≡ pick b (place_as r x) (place_as r y)
  unfolding pick
  pushed true x y = refl
  pushed false x y = refl

  -- what is asked of a held place only
  held-only : (b : Bool) (x y : Bool) → (b ≡ true → x ≡ y) → both b x ≡ both b y
  unfolding pick
  held-only true x y f = f refl
  held-only false x y f = refl

  pub has-as : (id : List ℕ) (p : Place) → has_id (r id) (place_as r p) ≡ has_id id p
  unfolding has_id
  has-as id p = held-only p.held _ _ (λ e. ap (λ (x : List ℕ). same x (r id)) (id-as p e) ∙ new.differ p.id id)

  twins-as : (p q : Place) → twins (place_as r p) (place_as r q) ≡ twins p q
  unfolding twins
  twins-as p q =
      held-only p.held _ _ (λ e. held-only q.held _ _ (λ f.
      ap₂ same (id-as p e) (id-as q f) ∙ new.differ p.id q.id))

  own-as : (id : List ℕ) (p : Place) → own_size (r id) (place_as r p) ≡ own_size id p
  unfolding own_size
  own-as id p =
      ap (λ (b : Bool). pick b p.size 0)
      (held-only p.held _ _ (λ e. ap not (ap (λ (x : List ℕ). same x (r id)) (id-as p e) ∙ new.differ p.id id)))

  pub committed-as : (z : ℕ) (p : Place) → committed z (place_as r p) ≡ committed z p
  unfolding committed
  committed-as z p = refl

  order-as : (z : ℕ) (p : Place) → place_in_order z (place_as r p) ≡ place_in_order z p
  unfolding place_in_order
  order-as z p =
      by p.held
      (λ e. let rest = both (eqb (p.size % z) 0) (leb (p.size / z) 64) in
      ap (λ (b : Bool). either (not p.held) (both (not b) rest)) (ap (λ (x : List ℕ). same x read_only) (id-as p e) ∙ word-as p.id))
      (λ e. picks _ _ _ (ap not e) ∙ sym (picks _ _ _ (ap not e)))

  -- ---- all of them

  abbrev pub all_as : List Place → List Place
  all_as ps = each (place_as r) ps

  pub whose-as : (id : List ℕ) (ps : List Place) → whose (r id) (all_as ps) ≡ place_as r (whose id ps)
  unfolding whose each no_place pick
  whose-as id [] = refl
  whose-as id (p ∷ ps) =
      by (has_id id p)
      (λ e. picks _ (place_as r p) _ (has-as id p ∙ e) ∙ ap (place_as r) (sym (picks (has_id id p) p (whose id ps) e)))
      (λ e. skips _ (place_as r p) _ (has-as id p ∙ e) ∙ whose-as id ps ∙ ap (place_as r) (sym (skips (has_id id p) p (whose id ps) e)))

  pub others-as : (id : List ℕ) (ps : List Place) → others (r id) (all_as ps) ≡ others id ps
  unfolding others each sum
  others-as id [] = refl
  others-as id (p ∷ ps) = ap₂ ◌+◌ (own-as id p) (others-as id ps)

  pub taken_as : (z : ℕ) (ps : List Place) → taken z (all_as ps) ≡ taken z ps
  unfolding taken joined each
  taken_as z [] = refl
  taken_as z (p ∷ ps) = ap₂ ◌++◌ (committed-as z p) (taken_as z ps)

  every-as : (z : ℕ) (ps : List Place) → every (place_in_order z) (all_as ps) ≡ every (place_in_order z) ps
  unfolding every each
  every-as z [] = refl
  every-as z (p ∷ ps) = ap₂ both (order-as z p) (every-as z ps)

  some_as : (p : Place) (ps : List Place) → some (twins (place_as r p)) (all_as ps) ≡ some (twins p) ps
  unfolding some each
  some_as p [] = refl
  some_as p (q ∷ ps) = ap₂ either (twins-as p q) (some_as p ps)

  apart-as : (ps : List Place) → apart twins (all_as ps) ≡ apart twins ps
  unfolding apart each
  apart-as [] = refl
  apart-as (p ∷ ps) = ap₂ both (ap not (some_as p ps)) (apart-as ps)

  places-as : (z disk : ℕ) (ps : List Place) → places_in_order z disk (all_as ps) ≡ places_in_order z disk ps
  unfolding places_in_order
  places-as z disk ps =
      ap₂ both (every-as z ps) (ap₂ both (apart-as ps)
      (ap (λ (l : List ℕ). both (apart eqb l) (every (λ n. ltb n disk) l)) (taken_as z ps)))

  pub replaced-as : (id : List ℕ) (x : Place) (ps : List Place) → replaced (r id) (place_as r x) (all_as ps) ≡ all_as (replaced id x ps)
  unfolding replaced each
  replaced-as id x [] = refl
  replaced-as id x (p ∷ ps) =
      ap₂ ◌∷◌
      (ap (λ (b : Bool). pick b (place_as r x) (place_as r p)) (has-as id p) ∙ sym (pushed (has_id id p) x p))
      (replaced-as id x ps)

  -- ---- an open program

  parent-in-as : (ps : List Place) (id : List ℕ) (size : ℕ) → parent_in_order (all_as ps) (r id) size ≡ parent_in_order ps id size
  unfolding parent_in_order
  parent-in-as ps id size =
      ap (λ (b : Bool). pick b (eqb size 0) (whose (r id) (all_as ps)).held) (word-as id)
      ∙ ap (λ (p : Place). pick (same id read_only) (eqb size 0) p.held) (whose-as id ps)

  terms-in-as : (ps : List Place) (t : Terms) (size : ℕ) → terms_in_order (all_as ps) (terms_as r t) size ≡ terms_in_order ps t size
  unfolding terms_in_order within
  terms-in-as ps t size =
      let rest = both (within t.head) (both (leb 72 t.room) (leb t.room 65536)) in
      ap (λ (b : Bool). both b rest) (parent-in-as ps t.head.contract size)

  progress-as : (z disk stage : ℕ) (ps : List Place) (t : Terms) (p : Progress)
      → progress_in_order z disk stage (all_as ps) (terms_as r t) p ≡ progress_in_order z disk stage ps t p
  unfolding progress_in_order
  progress-as z disk stage ps t p = rw (others-as t.head.contract ps, whose-as t.head.contract ps)

  -- the terms of an open program
  pub terms-as : (g : Program) → g.active ≡ true → (program_as r g).terms ≡ terms_as r g.terms
  terms-as g e = picks g.active (terms_as r g.terms) g.terms e

  program-as : (z disk stage : ℕ) (ps : List Place) (g : Program) → g.active ≡ true
      → program_in_order z disk stage (all_as ps) (program_as r g) ≡ program_in_order z disk stage ps g
  unfolding program_in_order
  program-as z disk stage ps g e =
      ap (λ (t : Terms).
      program_in_order z disk stage (all_as ps) (record { active = g.active; terms = t; came = g.came; progress = g.progress })) (terms-as g e)
      ∙ ap₂ both (terms-in-as ps g.terms g.progress.size)
      (ap (both (leb g.came g.terms.head.length)) (progress-as z disk stage ps g.terms g.progress))

  pub in-order-as : (h : Host) → in_order (host_as r h) ≡ in_order h
  unfolding in_order host_as
  in-order-as h =
      let z = h.sector in
      ap (λ (b : Bool). both (is_size z) (both (lent 64 h.disk) (both (lent 16 h.stage) b)))
      (ap₂ both (places-as z h.disk h.places)
      (by h.program.active
      (λ e. ap (either (not h.program.active)) (program-as z h.disk h.stage h.places h.program e))
      (λ e. picks _ _ _ (ap not e) ∙ sym (picks _ _ _ (ap not e)))))

-- "No padded short ids.": forming is walked down twice, and what it puts into the places is under the id that it was given. Assumes nothing.
use Rattle.lists.proofs.Kit.{◌≡◌, refl, sym, ap, ◌∙◌, true, false, List, [], ◌∷◌, ℕ}
use Rattle.lists.specs.Pick.{pick, either}
use Rattle.lists.specs.Tests.{some, each}
use Rattle.lists.proofs.Laws.Pick.{by, picks, skips, never, both_left, both_right, both-join}
use Rattle.lists.proofs.Laws.Ways.{either_way}
use Rattle.area.specs.Area.{same}
use Rattle.area.proofs.Laws.Same.{same-eq}
use Rattle.host.specs.Empty.{no_place, new_place, bare}
use Rattle.host.specs.With.{with_places, with_program, with_size, with_slots, with_disk_roots}
use Rattle.host.specs.Places.{has_id, whose}
use Rattle.host.specs.Calls.{freshed, padded, formed_at, formed, replaced, dropped}
use Rattle.machine_rules.specs.View.{parent, volume_by}
use Rattle.machine_rules.specs.Commit.{given_up, final_place, commit}
use Rattle.machine_rules.specs.Visit.{Areas, Agreement, closes}
use Rattle.host.proofs.Padded.{padding, word, fifteen}
use Rattle.host.proofs.Renaming.Exchange.{exchange}
use Rattle.host.proofs.Laws.Whose.{has-none, no-id}
use Rattle.machine_rules.specs.Padded.{holds, NoneFormed, ShortIds}
use Rattle.machine_rules.proofs.Nothing.{nothing, close-ways}
use Rattle.machine_rules.proofs.Renaming.Alike.{alike}
use Rattle.host.specs.declared.Place.{Place}
use Rattle.host.specs.declared.Host.{Host}
use Rattle.host.specs.Calls.{Made}

-- ---- no call forms one

new-not : (id other : List ℕ) → same other id ≡ false → has_id id (new_place other) ≡ false
unfolding has_id new_place pick
new-not id other e = e

held-some : (id : List ℕ) (ps : List Place) → (whose id ps).held ≡ some (has_id id) ps
unfolding some whose no_place has_id
held-some id [] = refl
held-some id (p ∷ ps) =
    by (has_id id p)
    (λ e. ap (λ (q : Place). q.held) (picks (has_id id p) p (whose id ps) e) ∙ both_left p.held _ e ∙ sym (picks (has_id id p) true _ e))
    (λ e. ap (λ (q : Place). q.held) (skips (has_id id p) p (whose id ps) e) ∙ held-some id ps ∙ sym (skips (has_id id p) true _ e))

-- a new contract is under the id that it was given
some-formed : (id other : List ℕ) (ps : List Place) → same other id ≡ false → some (has_id id) (formed_at other ps) ≡ some (has_id id) ps
unfolding formed_at some
some-formed id other [] e = refl
some-formed id other (p ∷ ps) e =
    by p.held
    (λ h. ap (some (has_id id)) (picks p.held (p ∷ formed_at other ps) (new_place other ∷ ps) h)
    ∙ ap (either (has_id id p)) (some-formed id other ps e))
    (λ h. ap (some (has_id id)) (skips p.held (p ∷ formed_at other ps) (new_place other ∷ ps) h)
    ∙ skips (has_id id (new_place other)) true (some (has_id id) ps) (new-not id other e)
    ∙ sym (skips (has_id id p) true (some (has_id id) ps) (has-none id p h)))

-- a place that gives way to another under its own id, or to none
some-replaced : (id c : List ℕ) (x : Place) (ps : List Place) → ((q : Place) → has_id c q ≡ true → has_id id x ≡ true → has_id id q ≡ true)
    → some (has_id id) (replaced c x ps) ≡ true → some (has_id id) ps ≡ true
unfolding replaced each some
some-replaced id c x [] f h = h
some-replaced id c x (p ∷ ps) f h =
    by (has_id id p)
    (λ e. picks (has_id id p) true _ e)
    (λ e. let other : has_id id (pick (has_id c p) x p) ≡ false =
    by (has_id c p)
    (λ g. ap (has_id id) (picks (has_id c p) x p g) ∙ by (has_id id x) (λ k. never (sym (f p g k) ∙ e)) (λ k. k))
    (λ g. ap (has_id id) (skips (has_id c p) x p g) ∙ e) in
    skips (has_id id p) true _ e ∙ some-replaced id c x ps f (sym (skips (has_id id (pick (has_id c p) x p)) true _ other) ∙ h))

-- ---- the calls

abbrev Before : Host → List ℕ → Host → Type 0
Before h id after = holds after id ≡ true → holds h id ≡ true

formed-before : (h : Host) (id other : List ℕ) → padded id ≡ true → Before h id (formed h other).host
unfolding formed with_places
formed-before h id other e =
    let way = either_way (λ (r : Made). Before h id r.host) in
    way _ _ _ (λ _ k. k) (λ _. way _ _ _ (λ _ k. k) (λ _. way _ _ _ (λ _ k. k) (λ _. way _ _ _ (λ _ k. k) (λ short.
    way _ _ _ (λ _ k. k) (λ _. way _ _ _ (λ _ k. k) (λ _ k.
    let apart = by (same other id) (λ w. never (sym e ∙ ap padded (sym (same-eq other id w)) ∙ short)) (λ w. w) in
    held-some id h.places ∙ sym (some-formed id other h.places apart) ∙ sym (held-some id (formed_at other h.places)) ∙ k))))))

dropped-before : (h : Host) (id other : List ℕ) → Before h id (dropped h other).host
unfolding dropped with_places
dropped-before h id other =
    let way = either_way (λ (r : Made). Before h id r.host) in
    way _ _ _ (λ _ k. k) (λ _. way _ _ _ (λ _ k. k) (λ _. way _ _ _ (λ _ k. k) (λ _. way _ _ _ (λ _ k. k) (λ _ k.
    held-some id h.places
    ∙ some-replaced id other no_place h.places (λ q _ g. never (sym g ∙ no-id id))
    (sym (held-some id (replaced other no_place h.places)) ∙ k)))))

none-held : no_place.held ≡ false
unfolding no_place
none-held = refl

-- the contract that is found has the id that it was asked for
whose-has : (c : List ℕ) (ps : List Place) → (whose c ps).held ≡ true → has_id c (whose c ps) ≡ true
unfolding whose
whose-has c [] h = never (sym h ∙ none-held)
whose-has c (p ∷ ps) h =
    by (has_id c p)
    (λ e. ap (has_id c) (picks (has_id c p) p (whose c ps) e) ∙ e)
    (λ e. let on = skips (has_id c p) p (whose c ps) e in
    ap (has_id c) on ∙ whose-has c ps (ap (λ (q : Place). q.held) (sym on) ∙ h))

-- the same contract with another size and other slots, under its id
own : (id c : List ℕ) (old q : Place) (size : ℕ) (slots : List ℕ) → (old.held ≡ true → has_id c old ≡ true) → has_id c q ≡ true
    → has_id id (final_place old size slots) ≡ true → has_id id q ≡ true
unfolding final_place with_size with_slots has_id
own id c old q size slots f g e =
    let held = both_left old.held _ e in
    let was = same-eq old.id c (both_right old.held _ (f held)) in
    let is = same-eq q.id c (both_right q.held _ g) in
    both-join _ _ (both_left q.held _ g) (ap (λ (l : List ℕ). same l id) (is ∙ sym was) ∙ both_right old.held _ e)

-- a commit leaves its contract under its id
committed-before : (h : Host) (a : Areas) (id : List ℕ) → Before h id (commit a.disk h a.stage).host
unfolding commit with_program with_places parent volume_by with_disk_roots
committed-before h a id k =
    let c = h.program.terms.head.contract in
    let old = whose c h.places in
    held-some id h.places
    ∙ some-replaced id c _ h.places (λ q g e. own id c old q _ _ (whose-has c h.places) g e) (sym (held-some id _) ∙ k)

closed-before : (h : Host) (a : Areas) (id : List ℕ) (g : Agreement) → Before h id (closes h a g).host
unfolding given_up with_program
closed-before h a id g =
    close-ways h a g (λ r. Before h id r.host) (λ n _ _ _ k. k) (λ _ k. k) (λ _ _ _ k. k) (λ _ _ _ k. k)
    (λ _ _ _ _. committed-before h a id)

held-as : (id : List ℕ) (ps after : List Place) → after ≡ ps → (whose id after).held ≡ true → (whose id ps).held ≡ true
held-as id ps after e k = ap (λ (l : List Place). (whose id l).held) (sym e) ∙ k

none-formed : (h : Host) (a : Areas) (id : List ℕ) → padded id ≡ true → NoneFormed h a id
none-formed h a id e = record {
  forming = λ other. formed-before h id other e;
  dropping = λ other. dropped-before h id other;
  opening = λ o. held-as id h.places _ ((nothing h a).opening o).places;
  piece = λ bytes. held-as id h.places _ ((nothing h a).piece bytes).places;
  interrupt = held-as id h.places _ (nothing h a).interrupt.places;
  closing = λ g. closed-before h a id g;
}

bare-none : (z disk stage : ℕ) (id : List ℕ) → holds (bare z disk stage) id ≡ false
unfolding bare whose has_id no_place pick
bare-none z disk stage id = refl

fresh-none : (z disk stage : ℕ) (id : List ℕ) → holds (freshed z disk stage).host id ≡ false
unfolding freshed
fresh-none z disk stage id =
    let way = either_way (λ (r : Made). holds r.host id ≡ false) in
    way _ _ _ (λ _. bare-none 0 0 0 id) (λ _. way _ _ _ (λ _. bare-none 0 0 0 id) (λ _.
    way _ _ _ (λ _. bare-none 0 0 0 id) (λ _. bare-none _ _ _ id)))

pub short-ids : ShortIds
short-ids = record {
  padding = padding;
  word = word;
  fifteen = fifteen;
  fresh = fresh-none;
  none = none-formed;
  alike = alike;
  exchange = exchange;
}

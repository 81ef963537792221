-- What a commit leaves alone: contracts of other ids, and slots that are not the parent's. Assumes nothing.
use Rattle.lists.proofs.Kit.{◌≡◌, refl, sym, ap, ap₂, ◌∙◌, Bool, true, false, not, List, [], ◌∷◌, ◌++◌, ℕ, not-true}
use Rattle.lists.specs.Tests.{every, each}
use Rattle.lists.proofs.Laws.Pick.{by, picks, skips, both_left, both_right, both-not-right}
use Rattle.area.specs.Area.{same}
use Rattle.area.proofs.Laws.Same.{same-eq}
use Rattle.sia.specs.Encode.{joined}
use Rattle.host.specs.Places.{has_id, whose}
use Rattle.host.specs.Calls.{replaced}
use Rattle.machine_rules.proofs.Laws.Sizes.{has_same, whose-here, whose-on}
use Rattle.host.specs.declared.Place.{Place}

-- of the place that is put in
pub whose-new : (id : List ℕ) (x : Place) (l m : List Place) → has_id id x ≡ true → every (λ q. not (has_id id q)) l ≡ true → whose id (l ++ (x ∷ m)) ≡ x
unfolding every
whose-new id x [] m e h = whose-here id x m e
whose-new id x (p ∷ l) m e h = whose-on id p (l ++ (x ∷ m)) (not-true _ (both_left _ _ h)) ∙ whose-new id x l m e (both_right _ _ h)

-- of the others
pub not-other : (id other : List ℕ) (p : Place) → same id other ≡ false → has_id id p ≡ true → has_id other p ≡ false
unfolding has_id
not-other id other p ne e = both-not-right p.held _ (ap (λ (x : List ℕ). same x other) (same-eq p.id id (has_same id p e)) ∙ ne)

pub whose-other : (id other : List ℕ) (x : Place) (ps : List Place) → has_id other x ≡ false → same id other ≡ false → whose other (replaced id x ps)
    ≡ whose other ps
unfolding replaced each
whose-other id other x [] no-x ne = refl
whose-other id other x (p ∷ ps) no-x ne =
    by (has_id id p)
    (λ e. ap (λ (q : Place). whose other (q ∷ replaced id x ps)) (picks (has_id id p) x p e) ∙ whose-on other x (replaced id x ps) no-x
    ∙ whose-other id other x ps no-x ne ∙ sym (whose-on other p ps (not-other id other p ne e)))
    (λ e. ap (λ (q : Place). whose other (q ∷ replaced id x ps)) (skips (has_id id p) x p e)
    ∙ by (has_id other p)
    (λ u. whose-here other p (replaced id x ps) u ∙ sym (whose-here other p ps u))
    (λ u. whose-on other p (replaced id x ps) u ∙ whose-other id other x ps no-x ne ∙ sym (whose-on other p ps u)))

pub joined-alike : (p : ℕ → Bool) (f g : ℕ → List ℕ) (l : List ℕ) → every p l ≡ true → ((n : ℕ) → p n ≡ true → f n ≡ g n) → joined f l ≡ joined g l
unfolding joined every
joined-alike p f g [] h k = refl
joined-alike p f g (x ∷ xs) h k = ap₂ ◌++◌ (k x (both_left _ _ h)) (joined-alike p f g xs (both_right _ _ h) k)

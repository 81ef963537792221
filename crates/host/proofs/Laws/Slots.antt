-- The slots that contracts take, gathered in one array. Assumes nothing.
use Rattle.lists.proofs.Kit.{◌≡◌, refl, sym, ap, ◌∙◌, true, false, List, [], ◌∷◌, ◌++◌, append_assoc, append-nil, ℕ, ◌+◌, ◌/◌, ◌<◌, min, arith, length}
use Rattle.lists.proofs.Kit.{take, get_or, take-suc}
use native.Mathlib.Numerals.{add-one}
use Rattle.lists.proofs.Laws.Pick.{yes, no}
use Rattle.lists.proofs.Laws.Slices.{take_min}
use Rattle.sia.specs.Encode.{joined}
use Rattle.host.specs.Places.{committed, taken}
use Rattle.host.specs.declared.Place.{Place}

-- a place that is not held takes none
pub none-taken : (z : ℕ) (p : Place) → p.held ≡ false → [] ≡ committed z p
unfolding committed
none-taken z p e = no p.held (take (p.size / z) p.slots) [] e refl

-- a contract takes those below its size, as far as there are entries
pub its-slots : (z : ℕ) (p : Place) (i n : ℕ) → p.held ≡ true → length p.slots ≡ n → i ≡ min (p.size / z) n → take i p.slots ≡ committed z p
unfolding committed
its-slots z p i n e h q = yes p.held (take (p.size / z) p.slots) [] e (rw q (take_min (p.size / z) n p.slots h))

-- ---- place by place

taken_more : (z : ℕ) (ps : List Place) (p : Place) → taken z (ps ++ (p ∷ [])) ≡ taken z ps ++ committed z p
unfolding taken joined
taken_more z [] p = append-nil _
taken_more z (x ∷ ps) p =
    ap (λ (l : List ℕ). committed z x ++ l) (taken_more z ps p) ∙ sym (append_assoc (committed z x) (taken z ps) (committed z p))

pub taken_none : (z : ℕ) → [] ≡ taken z []
unfolding taken joined
taken_none z = refl

pub taken-one : (z : ℕ) (ps : List Place) (k : ℕ) (d : Place) {n : ℕ} → length ps ≡ n → k < n
    → taken z (take k ps) ++ committed z (get_or ps k d) ≡ taken z (take (k + 1) ps)
taken-one z ps k d e h = sym (rw (add-one k, take-suc ps k d (omega arith)) (taken_more z (take k ps) (get_or ps k d)))

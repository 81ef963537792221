-- The lowest free place: where one is free, forming takes it. Assumes nothing.
use Rattle.lists.proofs.Kit.{◌≡◌, refl, sym, ap, ◌∙◌, true, false, not, Bool, cond, List, [], ◌∷◌, ℕ, suc, ◌+◌, ◌<◌, ◌≤◌}
use Rattle.lists.proofs.Kit.{length, set, ltb, ltb-true, ltb-false, arith}
use Rattle.std.specs.Prelude.{Option, Some, None, unwrap_or}
use Rattle.std.specs.List.{position, position_or_len}
use Rattle.std.proofs.lemmas.Option.{none-some}
use Rattle.lists.specs.Pick.{pick}
use Rattle.lists.specs.Tests.{some}
use Rattle.host.specs.Empty.{new_place}
use Rattle.host.specs.Calls.{formed_at}
use Rattle.host.specs.declared.Place.{Place}

abbrev pub is_free : Place → Bool
is_free p = not p.held

-- one is free where the number that is found is that of a place
room-here : (b : Bool) (rest : Bool) {n many : ℕ} → (n < many → rest ≡ true) → cond (not (not b)) (1 + n) 0 < suc many → pick (not b) true rest ≡ true
unfolding pick
room-here true rest k h = k (omega (arith, h))
room-here false rest k h = refl

room-found : (ps : List Place) → position_or_len is_free ps < length ps → some is_free ps ≡ true
unfolding some
room-found [] h = absurd (omega (arith, h))
room-found (p ∷ ps) h = room-here p.held (some is_free ps) (room-found ps) h

full-here : (b : Bool) (rest : Bool) {n many : ℕ} → (many ≤ n → rest ≡ false) → suc many ≤ cond (not (not b)) (1 + n) 0 → pick (not b) true rest ≡ false
unfolding pick
full-here true rest k h = k (omega (arith, h))
full-here false rest k h = absurd (omega (arith, h))

full-found : (ps : List Place) → length ps ≤ position_or_len is_free ps → some is_free ps ≡ false
unfolding some
full-found [] h = refl
full-found (p ∷ ps) h = full-here p.held (some is_free ps) (full-found ps) h

suc-is : (n : ℕ) → 1 + n ≡ suc n
suc-is n = omega arith

formed-here : (b : Bool) (p new : Place) (rest ps : List Place) (n : ℕ) → rest ≡ set ps n new
    → pick b (p ∷ rest) (new ∷ ps) ≡ set (p ∷ ps) (cond (not (not b)) (1 + n) 0) new
unfolding pick
formed-here true p new rest ps n e = rw (suc-is n) (ap (λ l. p ∷ l) e)
formed-here false p new rest ps n e = refl

formed-found : (id : List ℕ) (ps : List Place) → formed_at id ps ≡ set ps (position_or_len is_free ps) (new_place id)
unfolding formed_at
formed-found id [] = refl
formed-found id (p ∷ ps) = formed-here p.held p (new_place id) (formed_at id ps) ps _ (formed-found id ps)

found-number : (b : Bool) (n i : ℕ) → cond b (Some n) None ≡ Some i → (b ≡ true) × (n ≡ i)
found-number true n i e = (refl, ap (λ (o : Option ℕ). unwrap_or o 0) e)
found-number false n i e = absurd (none-some i e)

found-none : (b : Bool) (n : ℕ) → cond b (Some n) None ≡ None → b ≡ false
found-none true n e = absurd (none-some n (sym e))
found-none false n e = refl

module _ (ps : List Place) where
  pub full : position is_free ps ≡ None → some is_free ps ≡ false
  full e = full-found ps (ltb-false _ _ (found-none _ _ e))

  pub room : (i : ℕ) → position is_free ps ≡ Some i → some is_free ps ≡ true
  room i e = room-found ps (ltb-true _ _ (found-number _ _ i e).0)

  pub formed-in : (id : List ℕ) (i : ℕ) → position is_free ps ≡ Some i → set ps i (new_place id) ≡ formed_at id ps
  formed-in id i e = sym (formed-found id ps ∙ ap (λ n. set ps n (new_place id)) (found-number _ _ i e).1)

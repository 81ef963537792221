-- One turn of the loop that forms a contract. Assumes nothing.
use Rattle.lists.proofs.Kit.{◌≡◌, refl, sym, ap, ◌∙◌, true, false, List, [], ◌∷◌, ◌++◌, append_assoc, append-nil, ℕ, ◌+◌, ◌≤◌, ◌<◌, arith, length, take}
use Rattle.lists.proofs.Kit.{drop, get_or, set, slice, take_all, take-suc, set_split}
use native.Mathlib.Numerals.{add-one}
use Rattle.lists.proofs.Laws.Pick.{yes, no}
use Rattle.lists.proofs.Laws.Slices.{slice-none, slice-one}
use Rattle.host.specs.Empty.{new_place}
use Rattle.host.specs.Calls.{formed_at}
use Rattle.host.specs.declared.Place.{Place}

-- ---- the lowest free place is taken

module _ (id : List ℕ) (l : List Place) (f n : ℕ) (long : length l ≡ n) where
  pub formed-here : (d : Place) → f < n → (get_or l f d).held ≡ false → set l f (new_place id) ≡ take f l ++ formed_at id (slice f n l)
  unfolding formed_at
  formed-here d h e =
      let all : take n l ≡ l = take_all n l (omega arith) in
      set_split l f (new_place id) (omega arith) ∙ ap (λ (x : List Place). take f l ++ x)
      (no _ (get_or l f d ∷ formed_at id (slice (f + 1) n l)) _ e
      (ap (λ (x : List Place). new_place id ∷ x) (ap (λ (k : ℕ). drop k l) (sym (add-one f)) ∙ ap (drop (f + 1)) (sym all)))
      ∙ ap (formed_at id) (sym (slice-one l f n d long h (omega arith))))

  pub formed-further : (d : Place) → f < n → (get_or l f d).held ≡ true
      → take f l ++ formed_at id (slice f n l) ≡ take (f + 1) l ++ formed_at id (slice (f + 1) n l)
  unfolding formed_at
  formed-further d h e =
      let rest = formed_at id (slice (f + 1) n l) in
      let one : take (f + 1) l ≡ take f l ++ (get_or l f d ∷ []) = rw (add-one f) (take-suc l f d (omega arith)) in
      ap (λ (x : List Place). take f l ++ x)
      (ap (formed_at id) (slice-one l f n d long h (omega arith)) ∙ sym (yes _ (get_or l f d ∷ rest) _ e refl))
      ∙ sym (append_assoc (take f l) (get_or l f d ∷ []) rest) ∙ ap (λ (x : List Place). x ++ rest) (sym one)

  pub formed-done : n ≤ f → l ≡ take f l ++ formed_at id (slice f n l)
  unfolding formed_at
  formed-done h = rw (slice-none l f n h, take_all f l (omega arith)) (sym (append-nil l))

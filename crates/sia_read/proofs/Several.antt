-- Reading the entries of an array one by one: the whole reading is the first i in front of what is read from here on. Assumes nothing.
use Rattle.lists.proofs.Kit.{◌≡◌, refl, sym, ap, ◌∙◌, List, [], ◌∷◌, ◌++◌, append_assoc, append-nil, ℕ, suc, ◌+◌, ◌-◌, ◌≤◌, ◌<◌, sub-zero, arith}
use Rattle.lists.proofs.Kit.{length, take, drop, set, replicate, length-set, take-suc-set}
use Rattle.std.proofs.lemmas.List.{drop-replicate}
use Rattle.std.proofs.Math.Seq.{take-length}
use native.Mathlib.Numerals.{add-one}
use Rattle.sia.specs.Empty.{filled}
use Rattle.sia.specs.Decode.{Reading, value, fault, after, several, entries}
use Rattle.sia_read.proofs.Laws.{goes, stops}

-- entries in front of those of a reading
unfoldable pub onto : {A : Type 0} → List A → Reading (List A) → Reading (List A)
onto done r = after r (λ xs end. value (done ++ xs) end)

onto-none : {A : Type 0} (r : Reading (List A)) → r ≡ onto [] r
unfolding onto after
onto-none (value xs end) = refl
onto-none (fault n) = refl

onto-one : {A : Type 0} (done : List A) (x : A) (r : Reading (List A)) → onto done (after r (λ xs end. value (x ∷ xs) end)) ≡ onto (done ++ (x ∷ [])) r
unfolding onto after
onto-one done x (value xs end) = ap (λ (l : List _). value l end) (sym (append_assoc done (x ∷ []) xs))
onto-one done x (fault n) = refl

module _ {A : Type 0} (one : List ℕ → Reading A) (n : ℕ) (bs : List ℕ) where
  -- i of n entries were read into the front of a list, and `rest` is left
  pub record Entered (list : List A) (rest : List ℕ) (i : ℕ) : Type 0 where
    pub within : i ≤ n
    pub long : length list ≡ n
    pub ends : several one n bs ≡ onto (take i list) (several one (n - i) rest)

  pub begin : {list : List A} → length list ≡ n → Entered list bs 0
  begin {list} l = record {
    within = omega arith;
    long = l;
    ends = onto-none (several one n bs) ∙ ap (λ (k : ℕ). onto [] (several one k bs)) (sym (sub-zero n));
  }

  module _ {list : List A} {rest : List ℕ} {i : ℕ} (e : Entered list rest i) where
    next_one : i < n → several one (n - i) rest ≡ after (one rest) (λ x end. after (several one (n - (i + 1)) end) (λ xs end. value (x ∷ xs) end))
    unfolding several
    next_one h = let k : n - i ≡ suc (n - (i + 1)) = omega arith in rw k

    pub further : {x : A} {end : List ℕ} → i < n → value x end ≡ one rest → Entered (set list i x) end (i + 1)
    further {x} {end} h r =
        let l : i < length list = omega (arith, e.long) in
        let t : take (i + 1) (set list i x) ≡ take i list ++ (x ∷ []) = ap (λ (m : ℕ). take m (set list i x)) (add-one i) ∙ take-suc-set list i x l in
        record {
          within = omega arith;
          long = length-set list i x ∙ e.long;
          ends =
              e.ends
              ∙ ap (onto (take i list)) (next_one h ∙ sym (goes _ r refl))
              ∙ onto-one (take i list) x (several one (n - (i + 1)) end)
              ∙ ap (λ (done : List A). onto done (several one (n - (i + 1)) end)) (sym t);
        }

    pub stop : {k : ℕ} → i < n → fault k ≡ one rest → fault k ≡ several one n bs
    unfolding onto
    stop h f = stops _ (stops _ f ∙ sym (next_one h)) ∙ sym e.ends

    pub done : n ≤ i → value list rest ≡ several one n bs
    unfolding onto several after
    done h =
        let z : n - i ≡ 0 = omega arith in
        let l : i ≡ length list = omega (arith, e.long, e.within) in
        sym (e.ends ∙ ap (λ (m : ℕ). onto (take i list) (several one m rest)) z
        ∙ ap (λ (xs : List A). value xs rest) (append-nil (take i list) ∙ ap (λ (m : ℕ). take m list) l ∙ take-length list))

-- ---- an array's entries, of which the first k were read

module _ {A : Type 0} (one : List ℕ → Reading A) (room : ℕ) (none : A) (bs : List ℕ) {k n : ℕ} (e : k ≡ n) where
  pub filled-front : {xs all : List A} {rest : List ℕ} → length xs ≡ k → value xs rest ≡ several one k bs → all ≡ xs ++ drop n (replicate room none)
      → value all rest ≡ entries one room none n bs
  unfolding entries after filled
  filled-front {xs} {all} {rest} l r w =
      let behind = drop-replicate n room none ∙ ap (λ (k : ℕ). replicate (room - k) none) (sym (l ∙ e)) in
      ap (λ (ys : List A). value ys rest) (w ∙ ap (λ (l : List A). xs ++ l) behind)
      ∙ ap (λ (s : Reading (List A)). after s (λ xs rest. value (filled room none xs) rest)) (r ∙ ap (λ (m : ℕ). several one m bs) e)

  pub fault-in-front : {m : ℕ} → fault m ≡ several one k bs → fault m ≡ entries one room none n bs
  unfolding entries
  fault-in-front f = stops _ (f ∙ ap (λ (m : ℕ). several one m bs) e)

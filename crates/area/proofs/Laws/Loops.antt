-- One turn of a loop that lays bytes: ascending and descending, whatever the bytes are; and the loop's end. Assumes nothing.
use Rattle.lists.proofs.Kit.{◌≡◌, sym, ap, ◌∙◌, List, [], ◌∷◌, ℕ, suc, ◌+◌, ◌≤◌, ◌<◌, arith, length, take, drop, get_or, set, drop_of_length-le}
use Rattle.lists.proofs.Kit.{take-suc, take_all, drop-cons, length-take-le}
use native.Mathlib.Numerals.{add-one}
use Rattle.area.specs.Area.{put}
use Rattle.area.proofs.Laws.Puts.{set-put, put-append, put-apart, put-nil}

-- ---- ascending: the first i of bs are laid

pub one_more : {e : List ℕ} {v n : ℕ} (d : List ℕ) (to : ℕ) (bs : List ℕ) (i : ℕ) → length bs ≡ n → i < n → v ≡ get_or bs i 0
    → e ≡ put d to (take i bs) → set e (to + i) v ≡ put d to (take (i + 1) bs)
one_more {e} {v} d to bs i l h w p =
    set-put e (to + i) v
    ∙ (λ x. put (p x) (to + i) (w x ∷ []))
    ∙ put-append d to (take i bs) (get_or bs i 0 ∷ []) (to + i) (omega (arith, length-take-le i bs (omega arith)))
    ∙ ap (put d to) (sym (take-suc bs i 0 (omega arith)) ∙ ap (λ (n : ℕ). take n bs) (sym (add-one i)))

pub all_laid : {e : List ℕ} {n : ℕ} (d : List ℕ) (to : ℕ) (bs : List ℕ) (i : ℕ) → length bs ≡ n → n ≤ i → e ≡ put d to (take i bs) → e ≡ put d to bs
all_laid d to bs i l h p = p ∙ ap (put d to) (take_all i bs (omega arith))

-- ---- descending: all but the first i of bs are laid

pub none-laid-up : {n : ℕ} (d : List ℕ) (to : ℕ) (bs : List ℕ) → length bs ≡ n → d ≡ put d (to + n) (drop n bs)
none-laid-up {n} d to bs l = sym (put-nil d (to + n)) ∙ ap (put d (to + n)) (sym (drop_of_length-le bs {i = n} (omega arith)))

pub one-more-up : {e : List ℕ} {v n : ℕ} (d : List ℕ) (to : ℕ) (bs : List ℕ) (i k : ℕ) → length bs ≡ n → k < n → i ≡ suc k → v ≡ get_or bs k 0
    → e ≡ put d (to + i) (drop i bs) → set e (to + k) v ≡ put d (to + k) (drop k bs)
one-more-up {e} {v} d to bs i k l h j w p =
    set-put e (to + k) v
    ∙ (λ x. put (p x) (to + k) (w x ∷ []))
    ∙ sym (put-apart d (to + k) (get_or bs k 0 ∷ []) (to + i) (drop i bs) (omega arith))
    ∙ put-append d (to + k) (get_or bs k 0 ∷ []) (drop i bs) (to + i) (omega arith)
    ∙ ap (put d (to + k)) (ap (λ (n : ℕ). get_or bs k 0 ∷ drop n bs) j ∙ sym (drop-cons bs k 0 (omega arith)))

pub all-laid-up : {e : List ℕ} (d : List ℕ) (to : ℕ) (bs : List ℕ) (i : ℕ) → i ≤ 0 → e ≡ put d (to + i) (drop i bs) → e ≡ put d to bs
all-laid-up d to bs i h p =
    let z : i ≡ 0 = omega arith in
    let t : to + 0 ≡ to = omega arith in
    p ∙ ap (λ (k : ℕ). put d (to + k) (drop k bs)) z ∙ ap (λ (k : ℕ). put d k bs) t

-- A part of an area lent on, as `&mut out[at..]`: what the borrower lays over the part is laid over the area. A record of any
-- number of parts is one expression in `more`. Assumes nothing.
use Rattle.lists.proofs.Kit.{◌≡◌, refl, ap, ◌∙◌, List, [], ◌∷◌, ◌++◌, append-nil, ℕ, zero, suc, ◌+◌, ◌-◌, ◌≤◌, sym, arith, length, take, drop, length-drop}
use Rattle.lists.proofs.Kit.{drop_of_length-le, take_all}
use borrow.Rule.Slice.PartMut.{put_mid, Post-is}
use Rattle.area.specs.Area.{put}
use Rattle.area.proofs.Laws.Parts.{length_part, part-is}
use Rattle.area.proofs.Laws.Puts.{put-append, put_is}

-- the rest of an area from `at` on, whole
pub rest-take : (d : List ℕ) (at : ℕ) → take (length d - at) (drop at d) ≡ drop at d
rest-take d at = take_all (length d - at) (drop at d) (rw length-drop (omega arith))

pub rest-drop : (d : List ℕ) (at : ℕ) → drop (length d - at) (drop at d) ≡ []
rest-drop d at = drop_of_length-le (drop at d) {i = length d - at} (rw length-drop (omega arith))

-- laid over the rest is laid over the whole
put_rest : (d : List ℕ) (at k : ℕ) (bs : List ℕ) → take at d ++ put (drop at d) k bs ≡ put d (at + k) bs
unfolding put
put_rest d zero k bs = ap (λ (n : ℕ). put d n bs) (omega arith)
put_rest [] (suc at) k bs = refl
put_rest (x ∷ xs) (suc at) k bs =
    ap (λ (l : List ℕ). x ∷ l) (put_rest xs at k bs) ∙ ap (λ (n : ℕ). put (x ∷ xs) n bs) (let e : suc (at + k) ≡ suc at + k = omega arith in e)

-- the area after its rest, from `at` on, was lent to a function that laid bs over the rest from k on
pub lent_at : (d : List ℕ) (at k : ℕ) (bs : List ℕ) {ys : List ℕ} → ys ≡ put (take (length d - at) (drop at d)) k bs
    → put_mid at (length d - at) d ys ≡ put d (at + k) bs
lent_at d at k bs e = rw e (simp (rest-take, rest-drop, append-nil) (put_rest d at k bs))

pub lent : (d : List ℕ) (at : ℕ) (bs : List ℕ) {ys : List ℕ} → ys ≡ put (take (length d - at) (drop at d)) 0 bs
    → put_mid at (length d - at) d ys ≡ put d at bs
lent d at bs e = lent_at d at 0 bs e ∙ ap (λ (n : ℕ). put d n bs) (omega arith)

-- an area on which xs stands already from k on, when its rest behind xs was lent to a function that laid ys over the front of the rest
pub more : (d : List ℕ) (k : ℕ) (xs ys : List ℕ) (at : ℕ) {e zs : List ℕ} → e ≡ put d k xs → at ≡ k + length xs
    → zs ≡ put (take (length e - at) (drop at e)) 0 ys → put_mid at (length e - at) e zs ≡ put d k (xs ++ ys)
more d k xs ys at {e} p q r = lent e at ys r ∙ ap (λ (l : List ℕ). put l at ys) p ∙ put-append d k xs ys at q

-- n bytes of an area from `at` on, lent as `&mut out[at..at + n]`, and left as bs
pub lent_part : {bs ys : List ℕ} (d : List ℕ) (at n : ℕ) → at + n ≤ length d → length bs ≡ n → ys ≡ bs → put_mid at (at + n - at) d ys ≡ put d at bs
lent_part {bs} d at n h l e =
    (λ i. take at d ++ (e i ++ Post-is at (at + n) d (omega arith) i)) ∙ sym (put_is d at bs (at + n) (omega (arith, l)) h)

pub length_lent : (d : List ℕ) (at n : ℕ) → at + n ≤ length d → length (take (at + n - at) (drop at d)) ≡ n
length_lent d at n h = ap length (part-is d at n (at + n) refl) ∙ length_part d at n h

-- Bytes laid over areas: each law goes down the area, byte by byte. Assumes nothing.
use Rattle.lists.proofs.Kit.{◌≡◌, refl, sym, ap, ◌∙◌, List, [], ◌∷◌, ◌++◌, append_assoc, append-nil, ℕ, zero, suc, ◌+◌, ◌≤◌, ◌<◌, arith, length, take}
use Rattle.lists.proofs.Kit.{drop, get_or, set, length-append, drop_of_length-le, take_at, length-take-le}
use Rattle.area.specs.Area.{part, put}
use Rattle.area.proofs.Laws.Parts.{length_part}

pub cons : (x : ℕ) {l m : List ℕ} → l ≡ m → x ∷ l ≡ x ∷ m
cons x e = ap (λ (l : List ℕ). x ∷ l) e

pub length-put : (a : List ℕ) (at : ℕ) (bs : List ℕ) → length (put a at bs) ≡ length a
unfolding put
length-put [] at bs = refl
length-put (x ∷ xs) (suc at) bs = ap suc (length-put xs at bs)
length-put (x ∷ xs) zero [] = refl
length-put (x ∷ xs) zero (b ∷ bs) = ap suc (length-put xs zero bs)

pub put-nil : (a : List ℕ) (at : ℕ) → put a at [] ≡ a
unfolding put
put-nil [] at = refl
put-nil (x ∷ xs) zero = refl
put-nil (x ∷ xs) (suc at) = cons x (put-nil xs at)

-- a store is one byte laid
pub set-put : (a : List ℕ) (at v : ℕ) → set a at v ≡ put a at (v ∷ [])
unfolding put
set-put [] zero v = refl
set-put [] (suc at) v = refl
set-put (x ∷ xs) zero v = cons v (sym (put-nil xs zero))
set-put (x ∷ xs) (suc at) v = cons x (set-put xs at v)

-- what is there, laid where it is
pub put_self : (a : List ℕ) (at n : ℕ) → put a at (part a at n) ≡ a
unfolding part put
put_self [] at n = refl
put_self (x ∷ xs) (suc at) n = cons x (put_self xs at n)
put_self (x ∷ xs) zero zero = refl
put_self (x ∷ xs) zero (suc n) = cons x (put_self xs zero n)

-- one piece behind another
pub put-append : (a : List ℕ) (at : ℕ) (bs cs : List ℕ) (k : ℕ) → k ≡ at + length bs → put (put a at bs) k cs ≡ put a at (bs ++ cs)
unfolding put
put-append [] at bs cs k e = refl
put-append (x ∷ xs) (suc at) bs cs zero e = absurd (omega arith)
put-append (x ∷ xs) (suc at) bs cs (suc k) e = cons x (put-append xs at bs cs k (omega arith))
put-append (x ∷ xs) zero [] cs zero e = refl
put-append (x ∷ xs) zero [] cs (suc k) e = absurd (omega arith)
put-append (x ∷ xs) zero (b ∷ bs) cs zero e = absurd (omega arith)
put-append (x ∷ xs) zero (b ∷ bs) cs (suc k) e = cons b (put-append xs zero bs cs k (omega arith))

-- two pieces that do not meet
pub put-apart : (a : List ℕ) (at : ℕ) (bs : List ℕ) (to : ℕ) (cs : List ℕ) → at + length bs ≤ to → put (put a at bs) to cs ≡ put (put a to cs) at bs
unfolding put
put-apart [] at bs to cs h = refl
put-apart (x ∷ xs) (suc at) bs zero cs h = absurd (omega arith)
put-apart (x ∷ xs) (suc at) bs (suc to) cs h = cons x (put-apart xs at bs to cs (omega arith))
put-apart (x ∷ xs) zero [] to cs h = sym (put-nil (put (x ∷ xs) to cs) zero)
put-apart (x ∷ xs) zero (b ∷ bs) zero cs h = absurd (omega arith)
put-apart (x ∷ xs) zero (b ∷ bs) (suc to) cs h = cons b (put-apart xs zero bs to cs (omega arith))

-- a piece that another covers
pub put-cover : (a : List ℕ) (at : ℕ) (bs : List ℕ) (to : ℕ) (cs : List ℕ) → to ≤ at → at + length bs ≤ to + length cs → put (put a at bs) to cs ≡ put a to cs
unfolding put
put-cover [] at bs to cs g h = refl
put-cover (x ∷ xs) zero bs (suc to) cs g h = absurd (omega arith)
put-cover (x ∷ xs) (suc at) bs (suc to) cs g h = cons x (put-cover xs at bs to cs (omega arith) (omega arith))
put-cover (x ∷ xs) zero [] zero cs g h = refl
put-cover (x ∷ xs) (suc at) bs zero [] g h = absurd (omega arith)
put-cover (x ∷ xs) (suc at) bs zero (c ∷ cs) g h = cons c (put-cover xs at bs zero cs (omega arith) (omega arith))
put-cover (x ∷ xs) zero (b ∷ bs) zero [] g h = absurd (omega arith)
put-cover (x ∷ xs) zero (b ∷ bs) zero (c ∷ cs) g h = cons c (put-cover xs zero bs zero cs (omega arith) (omega arith))

-- the area is the front, what was laid and the rest, where it fits
pub put_is : (a : List ℕ) (at : ℕ) (bs : List ℕ) (k : ℕ) → k ≡ at + length bs → k ≤ length a → put a at bs ≡ take at a ++ (bs ++ drop k a)
unfolding put
put_is [] zero [] zero e h = refl
put_is [] zero [] (suc k) e h = absurd (omega arith)
put_is [] zero (b ∷ bs) k e h = absurd (omega arith)
put_is [] (suc at) bs k e h = absurd (omega arith)
put_is (x ∷ xs) zero [] zero e h = refl
put_is (x ∷ xs) zero [] (suc k) e h = absurd (omega arith)
put_is (x ∷ xs) zero (b ∷ bs) zero e h = absurd (omega arith)
put_is (x ∷ xs) zero (b ∷ bs) (suc k) e h = cons b (put_is xs zero bs k (omega arith) (omega arith))
put_is (x ∷ xs) (suc at) bs zero e h = absurd (omega arith)
put_is (x ∷ xs) (suc at) bs (suc k) e h = cons x (put_is xs at bs k (omega arith) (omega arith))

-- what stands up to the end of a piece that was laid
pub take_put : (a : List ℕ) (at : ℕ) (bs : List ℕ) (k : ℕ) → k ≡ at + length bs → k ≤ length a → take k (put a at bs) ≡ take at a ++ bs
take_put a at bs k e h =
    let n : length (take at a ++ bs) ≡ k = omega (arith, length-append (take at a) bs, length-take-le at a (omega arith)) in
    ap (take k) (put_is a at bs k e h ∙ sym (append_assoc (take at a) bs (drop k a))) ∙ take_at (take at a ++ bs) (drop k a) k n

-- a piece laid over the front of two areas, or over the rest behind the front
pub put_front : (f b : List ℕ) (at : ℕ) (bs : List ℕ) → at + length bs ≤ length f → put (f ++ b) at bs ≡ put f at bs ++ b
unfolding put
put_front [] b zero [] h = put-nil b zero
put_front [] b zero (c ∷ cs) h = absurd (omega arith)
put_front [] b (suc at) bs h = absurd (omega arith)
put_front (x ∷ f) b (suc at) bs h = cons x (put_front f b at bs (omega arith))
put_front (x ∷ f) b zero [] h = refl
put_front (x ∷ f) b zero (c ∷ cs) h = cons c (put_front f b zero cs (omega arith))

pub put_back : (f b : List ℕ) (at : ℕ) (bs : List ℕ) → at ≡ length f → put (f ++ b) at bs ≡ f ++ put b 0 bs
unfolding put
put_back [] b zero bs e = refl
put_back [] b (suc at) bs e = absurd (omega arith)
put_back (x ∷ f) b zero bs e = absurd (omega arith)
put_back (x ∷ f) b (suc at) bs e = cons x (put_back f b at bs (omega arith))

-- a piece as long as the area
pub put_all : (a bs : List ℕ) → length bs ≡ length a → put a 0 bs ≡ bs
put_all a bs e =
    put_is a 0 bs (length bs) (omega arith) (omega arith)
    ∙ ap (λ (l : List ℕ). bs ++ l) (drop_of_length-le a {i = length bs} (omega arith))
    ∙ append-nil bs

-- a part of other bytes, as long as the area
pub put-part : {e : List ℕ} (a bs : List ℕ) (at n : ℕ) → length a ≡ n → at + n ≤ length bs → e ≡ put a 0 (part bs at n) → e ≡ part bs at n
put-part a bs at n l h p = p ∙ put_all a (part bs at n) (length_part bs at n h ∙ sym l)

-- ---- parts of what results: what was laid, what lies in front of it, what lies behind it

pub part-put : (a : List ℕ) (at : ℕ) (bs : List ℕ) (n : ℕ) → n ≡ length bs → at + length bs ≤ length a → part (put a at bs) at n ≡ bs
unfolding part put
part-put [] zero [] zero e h = refl
part-put [] zero [] (suc n) e h = absurd (omega arith)
part-put [] zero (b ∷ bs) n e h = absurd (omega arith)
part-put [] (suc at) bs n e h = absurd (omega arith)
part-put (x ∷ xs) (suc at) bs n e h = part-put xs at bs n e (omega arith)
part-put (x ∷ xs) zero [] zero e h = refl
part-put (x ∷ xs) zero [] (suc n) e h = absurd (omega arith)
part-put (x ∷ xs) zero (b ∷ bs) zero e h = absurd (omega arith)
part-put (x ∷ xs) zero (b ∷ bs) (suc n) e h = cons b (part-put xs zero bs n (omega arith) (omega arith))

pub part-before : (a : List ℕ) (at : ℕ) (bs : List ℕ) (from n : ℕ) → from + n ≤ at → part (put a at bs) from n ≡ part a from n
unfolding part put
part-before [] at bs from n h = refl
part-before (x ∷ xs) zero bs zero zero h = refl
part-before (x ∷ xs) zero bs zero (suc n) h = absurd (omega arith)
part-before (x ∷ xs) zero bs (suc from) n h = absurd (omega arith)
part-before (x ∷ xs) (suc at) bs zero zero h = refl
part-before (x ∷ xs) (suc at) bs zero (suc n) h = cons x (part-before xs at bs zero n (omega arith))
part-before (x ∷ xs) (suc at) bs (suc from) n h = part-before xs at bs from n (omega arith)

pub part-behind : (a : List ℕ) (at : ℕ) (bs : List ℕ) (from n : ℕ) → at + length bs ≤ from → part (put a at bs) from n ≡ part a from n
unfolding part put
part-behind [] at bs from n h = refl
part-behind (x ∷ xs) (suc at) bs zero n h = absurd (omega arith)
part-behind (x ∷ xs) (suc at) bs (suc from) n h = part-behind xs at bs from n (omega arith)
part-behind (x ∷ xs) zero [] from n h = refl
part-behind (x ∷ xs) zero (b ∷ bs) zero n h = absurd (omega arith)
part-behind (x ∷ xs) zero (b ∷ bs) (suc from) n h = part-behind xs zero bs from n (omega arith)

-- ---- one byte of what results

pub get_or-before : (a : List ℕ) (at : ℕ) (bs : List ℕ) (k : ℕ) → k < at → get_or (put a at bs) k 0 ≡ get_or a k 0
unfolding put
get_or-before [] at bs k h = refl
get_or-before (x ∷ xs) zero bs k h = absurd (omega arith)
get_or-before (x ∷ xs) (suc at) bs zero h = refl
get_or-before (x ∷ xs) (suc at) bs (suc k) h = get_or-before xs at bs k (omega arith)

pub get_or-behind : (a : List ℕ) (at : ℕ) (bs : List ℕ) (k : ℕ) → at + length bs ≤ k → get_or (put a at bs) k 0 ≡ get_or a k 0
unfolding put
get_or-behind [] at bs k h = refl
get_or-behind (x ∷ xs) (suc at) bs zero h = absurd (omega arith)
get_or-behind (x ∷ xs) (suc at) bs (suc k) h = get_or-behind xs at bs k (omega arith)
get_or-behind (x ∷ xs) zero [] k h = refl
get_or-behind (x ∷ xs) zero (b ∷ bs) zero h = absurd (omega arith)
get_or-behind (x ∷ xs) zero (b ∷ bs) (suc k) h = get_or-behind xs zero bs k (omega arith)

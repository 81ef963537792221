-- Two spans of an area exchanged: at once where they do not overlap; where they do, what both have is moved and the ends are
-- exchanged. Assumes nothing.
use Rattle.lists.proofs.Kit.{◌≡◌, refl, sym, ap, ◌∙◌, List, ◌++◌, ℕ, ◌+◌, ◌-◌, ◌≤◌, arith, length, take, drop, take-append-drop}
use Rattle.lists.proofs.Kit.{length-drop, length-take-le}
use mathlib.Core.Logic.{◌⊎◌, ⊎_elim}
use borrow.Rule.Slice.PartMut.{post_of, put_mid}
use Rattle.area.specs.Area.{part, put, exchanged}
use Rattle.area.proofs.Laws.Parts.{length_part, part-add, part-is, part-part}
use Rattle.area.proofs.Laws.Puts.{put-append, put-apart, put-cover, part-before, part-behind, put_front, put_back, put_is}
use Rattle.area.proofs.Laws.Lent.{lent_part}

-- one of two spans ends where the other begins, or before
abbrev Apart : ℕ → ℕ → ℕ → ℕ → Type 0
Apart one n two m = (one + n ≤ two) ⊎ (two + m ≤ one)

-- a part laid in two pieces
joined : (d : List ℕ) (to : ℕ) (s : List ℕ) (from i m : ℕ) → from + i ≤ length s
    → put (put d to (part s from i)) (to + i) (part s (from + i) m) ≡ put d to (part s from (i + m))
joined d to s from i m h =
    put-append d to (part s from i) (part s (from + i) m) (to + i) (omega (arith, length_part s from i h))
    ∙ ap (put d to) (sym (part-add s from i m))

-- ---- bytes laid elsewhere: they change no part, and their order does not matter

pub part-away : (a : List ℕ) (at : ℕ) (bs : List ℕ) (from n : ℕ) → Apart from n at (length bs) → part (put a at bs) from n ≡ part a from n
part-away a at bs from n s = ⊎_elim (λ w. part-before a at bs from n w) (λ w. part-behind a at bs from n w) s

pub put-away : (a : List ℕ) (at : ℕ) (bs : List ℕ) (to : ℕ) (cs : List ℕ) → Apart at (length bs) to (length cs)
    → put (put a at bs) to cs ≡ put (put a to cs) at bs
put-away a at bs to cs s = ⊎_elim (λ w. put-apart a at bs to cs w) (λ w. sym (put-apart a to cs at bs w)) s

-- ---- spans that do not overlap: one in front of `high`, one from there on, exchanged by std

pub met-apart : {f b x y : List ℕ} (d : List ℕ) (low high n : ℕ) → low + n ≤ high → high + n ≤ length d → f ≡ take high d → b ≡ drop high d
    → x ≡ take n b → y ≡ take (low + n - low) (drop low f)
    → take low f ++ (x ++ post_of low (low + n - low) f) ++ (y ++ drop n b) ≡ exchanged d low high n
unfolding part exchanged
met-apart {f} {b} {x} {y} d low high n apart h ef eb ex ey =
    let lf : length f ≡ high = ap length ef ∙ length-take-le high d (omega arith) in
    let lb : length b ≡ length d - high = ap length eb ∙ length-drop high d in
    let rest : drop high d ≡ b = sym eb in
    let q : x ≡ part d high n = ex ∙ ap (take n) eb in
    let p : y ≡ part d low n =
    ey ∙ part-is f low n (low + n) refl ∙ ap (λ (l : List ℕ). part l low n) ef ∙ part-part d 0 high low n apart
    ∙ ap (λ (k : ℕ). part d k n) (let z : 0 + low ≡ low = omega arith in z) in
    let lq : length (part d high n) ≡ n = length_part d high n h in
    let lp : length (part d low n) ≡ n = length_part d low n (omega arith) in
    let front : put_mid low (low + n - low) f x ≡ put f low (part d high n) = lent_part f low n (omega arith) lq q in
    let back : y ++ drop n b ≡ put b 0 (part d low n) =
    ap (λ (l : List ℕ). l ++ drop n b) p ∙ sym (put_is b 0 (part d low n) n (omega arith) (omega arith)) in
    let whole : d ≡ f ++ b = sym (take-append-drop high d) ∙ (λ i. sym ef i ++ sym eb i) in
    (λ i. front i ++ back i)
    ∙ sym (put_front f (put b 0 (part d low n)) low (part d high n) (omega arith))
    ∙ ap (λ (l : List ℕ). put l low (part d high n)) (sym (put_back f b high (part d low n) (sym lf)))
    ∙ ap (λ (l : List ℕ). put (put l high (part d low n)) low (part d high n)) (sym whole)

-- the two spans may be named in either order where they do not overlap
pub turned-apart : (d : List ℕ) (low high n : ℕ) → low + n ≤ high → high + n ≤ length d → exchanged d low high n ≡ exchanged d high low n
unfolding exchanged
turned-apart d low high n apart h =
    let lp : length (part d low n) ≡ n = length_part d low n (omega arith) in
    sym (put-apart d low (part d high n) high (part d low n) (omega (arith, length_part d high n h)))

-- ---- spans that overlap, k apart: m bytes are moved, k bytes at the ends exchanged

-- the first below
swapped-below : (d : List ℕ) (one two m k : ℕ) → two ≡ one + k → two + (m + k) ≤ length d
    → exchanged (put d one (part d two m)) (one + m) (two + m) k ≡ exchanged d one two (m + k)
unfolding exchanged
swapped-below d one two m k apart h =
    let q : List ℕ = part d two m in
    let r : List ℕ = part d (one + m) k in
    let whole : List ℕ = part d two (m + k) in
    let lq : length q ≡ m = length_part d two m (omega arith) in
    let lp : length (part d one m) ≡ m = length_part d one m (omega arith) in
    let lw : length whole ≡ m + k = length_part d two (m + k) (omega arith) in
    let e : List ℕ = put d (two + m) r in
    (λ x. put (put (put d one q) (two + m) (part-behind d one q (one + m) k (omega arith) x)) (one + m) (part-behind d one q (two + m) k (omega arith) x))
    ∙ ap (λ (l : List ℕ). put l (one + m) (part d (two + m) k)) (put-apart d one q (two + m) r (omega arith))
    ∙ joined e one d two m k (omega arith)
    ∙ sym (put-cover e two (part d one m) one whole (omega arith) (omega arith))
    ∙ ap (λ (l : List ℕ). put l one whole) (sym (put-apart d two (part d one m) (two + m) r (omega arith)) ∙ joined d two d one m k (omega arith))

-- the second below
swapped-above : (d : List ℕ) (one two m k : ℕ) → one ≡ two + k → one + (k + m) ≤ length d
    → exchanged (put d (one + k) (part d one m)) one two k ≡ exchanged d one two (k + m)
unfolding exchanged
swapped-above d one two m k apart h =
    let p : List ℕ = part d one k in
    let q : List ℕ = part d two k in
    let moved : List ℕ = part d one m in
    let whole : List ℕ = part d two (k + m) in
    let lp : length p ≡ k = length_part d one k (omega arith) in
    let lq : length q ≡ k = length_part d two k (omega arith) in
    let ls : length (part d (one + k) m) ≡ m = length_part d (one + k) m (omega arith) in
    let lw : length whole ≡ k + m = length_part d two (k + m) (omega arith) in
    let e : List ℕ = put d two p in
    (λ x. put (put (put d (one + k) moved) two (part-before d (one + k) moved one k (omega arith) x)) one (part-before d (one + k) moved two k (omega arith) x))
    ∙ ap (λ (l : List ℕ). put l one q) (sym (put-apart d two p (one + k) moved (omega arith)))
    ∙ sym (put-apart e one q (one + k) moved (omega arith))
    ∙ ap (λ (x : ℕ). put (put e one q) (one + k) (part d x m)) apart
    ∙ joined e one d two k m (omega arith)
    ∙ sym (put-cover e (two + k) (part d (one + k) m) one whole (omega arith) (omega arith))
    ∙ ap (λ (l : List ℕ). put l one whole) (joined d two d one k m (omega arith))

-- as the code does it
pub met-below : {a b : List ℕ} (d : List ℕ) (one two n m k : ℕ) → two ≡ one + k → n ≡ m + k → two + n ≤ length d
    → a ≡ put d one (part d two m) → b ≡ exchanged a (one + m) (two + m) k → b ≡ exchanged d one two n
met-below d one two n m k apart whole h e f =
    f ∙ ap (λ (l : List ℕ). exchanged l (one + m) (two + m) k) e
    ∙ swapped-below d one two m k apart (omega arith) ∙ ap (exchanged d one two) (sym whole)

pub met-above : {a b : List ℕ} (d : List ℕ) (one two n m k : ℕ) → one ≡ two + k → n ≡ m + k → one + n ≤ length d
    → a ≡ put d (one + k) (part d one m) → b ≡ exchanged a two one k → length a ≡ length d → b ≡ exchanged d one two n
met-above {a} d one two n m k apart whole h e f l =
    let t : k + m ≡ n = omega arith in
    f ∙ turned-apart a two one k (omega arith) (omega arith) ∙ ap (λ (l : List ℕ). exchanged l one two k) e
    ∙ swapped-above d one two m k apart (omega arith) ∙ ap (exchanged d one two) t

-- The reader passes the sections of an input. Where a section is there, what is kept of it stands behind what stood, and the next begins; where
-- bytes of it are missing, the reader stays in it, and holds nothing. Assumes nothing.
use Rattle.lists.proofs.Kit.{◌≡◌, refl, sym, ap, ◌∙◌, false, List, [], ◌∷◌, ◌++◌, append_assoc, append-nil, ℕ, zero, suc, ◌+◌, ◌-◌, ◌*◌, ◌≤◌, ◌<◌}
use Rattle.lists.proofs.Kit.{min, arith, length, take, drop, length-drop, take-append-drop, take-nil, drop-drop, length-take-le, ltb, ltb-true}
use Rattle.lists.proofs.Kit.{ltb-false, ne_eqb}
use Rattle.lists.proofs.Laws.Pick.{by, picks, skips}
use Rattle.area.specs.Area.{part}
use Rattle.bench_input.specs.Reader.{State, reader, ids_from, data_from, head_from, fed, laid, in_data, held, holds}
use Rattle.bench_input.specs.declared.Section.{Section}
use Rattle.bench_input.specs.declared.Section.TheVariants.{Ids, Length, Head}
use Rattle.bench_input.specs.declared.Reader.{Reader}
use Rattle.bench_input.proofs.Laws.Feeding.{fed-append, stays, data-fed}
use Rattle.bench_input.proofs.Laws.Standing.{Stands, stands-as, stands_at, laid-stands, section-fed, behind-id, behind-head}

-- ---- cutting

pub fed-cut : (s : State) (n : ℕ) (bs : List ℕ) → fed s bs ≡ fed (fed s (take n bs)) (drop n bs)
fed-cut s n bs = ap (fed s) (sym (take-append-drop n bs)) ∙ fed-append s (take n bs) (drop n bs)

-- from a place on
pub fed-part : (s : State) (all : List ℕ) (at n : ℕ) → fed s (drop at all) ≡ fed (fed s (part all at n)) (drop (at + n) all)
unfolding part
fed-part s all at n = fed-cut s n (drop at all) ∙ ap (fed (fed s (take n (drop at all)))) (drop-drop n at all)

take-cut : (m n : ℕ) (l : List ℕ) → take m (take n l) ++ take (m - n) (drop n l) ≡ take m l
take-cut zero n l = let e : 0 - n ≡ 0 = omega arith in ap (λ (j : ℕ). take j (drop n l)) e
take-cut (suc m) zero l = let e : suc m - 0 ≡ suc m = omega arith in ap (λ (j : ℕ). take j l) e
take-cut (suc m) (suc n) [] = take-nil (suc m - suc n)
take-cut (suc m) (suc n) (x ∷ l) =
    let e : suc m - suc n ≡ m - n = omega arith in
    ap (λ (r : List ℕ). x ∷ r) (ap (λ (j : ℕ). take m (take n l) ++ take j (drop n l)) e ∙ take-cut m n l)

-- ---- a section from which bytes are missing: nothing is held

pub short : {x : Section} {i l m a : ℕ} {s : State} {k : List ℕ} → Stands s (reader x i l m a) a k → in_data x ≡ false
    → (bs : List ℕ) → length bs < l → held (fed s bs).reader ≡ 0
unfolding held
short {s = s} h e bs g =
    let left = ap (λ (r : Reader). r.left) h.same in
    skips _ _ _ (ap in_data (stays s bs (omega arith) ∙ ap (λ (r : Reader). r.section) h.same) ∙ e)

-- ---- ids

-- none is left; one more
no-ids : (m a : ℕ) → ids_from 0 m a ≡ reader Length 0 8 8 a
unfolding ids_from
no-ids m a = picks _ _ _ refl

more-ids : (n m a : ℕ) → ids_from (suc n) m a ≡ reader Ids n 32 m a
unfolding ids_from
more-ids n m a = let e : suc n - 1 ≡ n = omega arith in skips _ _ _ (ne_eqb (suc n) 0 (λ z. omega arith)) ∙ ap (λ (j : ℕ). reader Ids j 32 m a) e

stands_by : {s : State} {r q : Reader} {a : ℕ} {k : List ℕ} → r ≡ q → Stands s r a k → Stands s q a k
stands_by e h = record { same = h.same ∙ e; front = h.front; long = h.long }

one-id : {n m a : ℕ} {s : State} {k : List ℕ} → Stands s (reader Ids n 32 m a) a k → a + m ≤ 68810 → (bs : List ℕ) → length bs ≡ 32
    → Stands (fed s bs) (ids_from n (m - length bs) (a + min m (length bs))) (a + min m (length bs)) (k ++ take m bs)
one-id h fits bs e = stands-as (section-fed h fits bs (omega arith) e) (behind-id (laid-stands h fits bs))

nothing-more : (m : ℕ) (k : List ℕ) → k ≡ k ++ take m []
nothing-more m k = sym (ap (λ (l : List ℕ). k ++ l) (take-nil m) ∙ append-nil k)

pub ids-fed : (n m : ℕ) {a : ℕ} {s : State} {k : List ℕ} → Stands s (ids_from n m a) a k → a + m ≤ 68810 → (bs : List ℕ) → length bs ≡ n * 32
    → Stands (fed s bs) (reader Length 0 8 8 (a + min m (length bs))) (a + min m (length bs)) (k ++ take m bs)
unfolding fed
ids-fed zero m {a} {k = k} h fits [] e = stands_at (reader Length 0 8 8) (omega arith) (nothing-more m k) (stands_by (no-ids m a) h)
ids-fed zero m h fits (b ∷ bs) e = absurd (omega arith)
ids-fed (suc n) m {a} {s} {k} h fits bs e =
    let one : length (take 32 bs) ≡ 32 = length-take-le 32 bs (omega arith) in
    let rest = length-drop 32 bs in
    let first = one-id (stands_by (more-ids n m a) h) fits (take 32 bs) one in
    let cut : take (m - length (take 32 bs)) (drop 32 bs) ≡ take (m - 32) (drop 32 bs) = ap (λ (j : ℕ). take (m - j) (drop 32 bs)) one in
    stands-as (fed-cut s 32 bs)
    (stands_at (reader Length 0 8 8) (omega arith)
    (append_assoc k (take m (take 32 bs)) (take (m - length (take 32 bs)) (drop 32 bs))
    ∙ ap (λ (l : List ℕ). k ++ l) (ap (λ (l : List ℕ). take m (take 32 bs) ++ l) cut ∙ take-cut m 32 bs))
    (ids-fed n (m - length (take 32 bs)) first (omega arith) (drop 32 bs) (omega arith)))

pub ids_short : (n m : ℕ) {a : ℕ} {s : State} {k : List ℕ} → Stands s (ids_from n m a) a k → a + m ≤ 68810 → (bs : List ℕ) → length bs < n * 32
    → held (fed s bs).reader ≡ 0
ids_short zero m h fits bs g = absurd (omega arith)
ids_short (suc n) m {a} {s} h fits bs g =
    let here = stands_by (more-ids n m a) h in
    by (ltb (length bs) 32)
    (λ u. short here refl bs (ltb-true _ 32 u))
    (λ u.
    let many : 32 ≤ length bs = ltb-false _ 32 u in
    let one : length (take 32 bs) ≡ 32 = length-take-le 32 bs many in
    ap (λ (t : State). held t.reader) (fed-cut s 32 bs)
    ∙ ids_short n (m - length (take 32 bs)) (one-id here fits (take 32 bs) one) (omega arith) (drop 32 bs) (omega (arith, length-drop 32 bs)))

-- ---- the head

no-head : (a : ℕ) → head_from 0 a ≡ data_from a
unfolding head_from
no-head a = picks _ _ _ refl

some-head : (n a : ℕ) → head_from (suc n) a ≡ reader Head 0 (suc n) (min (suc n) 2897) a
unfolding head_from
some-head n a = skips _ _ _ (ne_eqb (suc n) 0 (λ z. omega arith))

pub head-fed : (n : ℕ) {a : ℕ} {s : State} {k : List ℕ} → Stands s (head_from n a) a k → a + 2897 ≤ 68810 → (bs : List ℕ) → length bs ≡ n
    → Stands (fed s bs) (data_from (a + min n 2897)) (a + min n 2897) (k ++ take (min n 2897) bs)
unfolding fed
head-fed zero {a} {k = k} h fits [] e = stands_at data_from (omega arith) (nothing-more 0 k) (stands_by (no-head a) h)
head-fed zero h fits (b ∷ bs) e = absurd (omega arith)
head-fed (suc n) {a} {s} {k} h fits bs e =
    let here = stands_by (some-head n a) h in
    let room : a + min (suc n) 2897 ≤ 68810 = omega arith in
    stands_at data_from (omega arith) refl (stands-as (section-fed here room bs (omega arith) e) (behind-head (laid-stands here room bs)))

pub head-short : (n : ℕ) {a : ℕ} {s : State} {k : List ℕ} → Stands s (head_from n a) a k → (bs : List ℕ) → length bs < n → held (fed s bs).reader ≡ 0
head-short zero h bs g = absurd (omega arith)
head-short (suc n) {a} h bs g = short (stands_by (some-head n a) h) refl bs g

-- ---- data

pub data-held : {a : ℕ} {s : State} {k : List ℕ} → Stands s (data_from a) a k → a + 65537 ≤ 68810 → (bs : List ℕ) → holds (fed s bs) ≡ k ++ take 65537 bs
unfolding data_from holds held
data-held {a} {s} {k} h fits bs =
    let st = laid-stands h fits bs in
    ap (λ (t : State). take (held t.reader) t.area) (data-fed s bs (ap (λ (r : Reader). r.section) h.same))
    ∙ ap (λ (r : Reader). take (held r) (laid s bs).area) st.same
    ∙ ap (λ (n : ℕ). take n (laid s bs).area) (picks _ _ _ refl)
    ∙ st.front

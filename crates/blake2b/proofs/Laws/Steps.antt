-- One round after another, the parts of F, and the local vector at a counter of one word, from the state written out. Assumes nothing.
use Rattle.lists.proofs.Kit.{◌≡◌, refl, sym, ap, ◌∙◌, Bool, List, [], ◌∷◌, ◌++◌, ℕ, zero, suc, ◌+◌, ◌%◌, ◌/◌, ◌^◌, ◌≤◌, ◌<◌, arith, length, take, drop}
use Rattle.lists.proofs.Kit.{get_or, set, take_all, drop-cons, set-get_or}
use lib.Bits.{xor_zero_r}
use Rattle.blake2b.specs.Schedule.{chosen}
use Rattle.std.specs.Prelude.{bit_xor}
use Rattle.blake2b.specs.Compression.{IV, rotr, sum3, sum2, turn, G, round, rounds, xor_at, local, folded, F}

-- ---- G, from what each of its eight steps sets

pub sum3-is : {r : ℕ} (v : List ℕ) (a b x : ℕ) → r ≡ (get_or v a 0 + get_or v b 0 + x) % 2 ^ 64 → set v a r ≡ sum3 v a b x
unfolding sum3
sum3-is v a b x e = ap (set v a) e

pub sum2-is : (v : List ℕ) (c d : ℕ) → set v c ((get_or v c 0 + get_or v d 0) % 2 ^ 64) ≡ sum2 v c d
unfolding sum2
sum2-is v c d = refl

pub turn-is : {r : ℕ} (v : List ℕ) (d a n : ℕ) → r ≡ rotr n (bit_xor (get_or v d 0) (get_or v a 0)) → set v d r ≡ turn v d a n
unfolding turn
turn-is v d a n e = ap (set v d) e

pub mixed : {v1 v2 v3 v4 v5 v6 v7 v8 : List ℕ} (v : List ℕ) (a b c d x y : ℕ) → v1 ≡ sum3 v a b x → v2 ≡ turn v1 d a 32 → v3 ≡ sum2 v2 c d
    → v4 ≡ turn v3 b c 24 → v5 ≡ sum3 v4 a b y → v6 ≡ turn v5 d a 16 → v7 ≡ sum2 v6 c d → v8 ≡ turn v7 b c 63 → v8 ≡ G v a b c d x y
unfolding G
mixed v a b c d x y e1 e2 e3 e4 e5 e6 e7 e8 = cc

-- ---- one round after another

-- the two halves of a round that takes the words x
abbrev columns : List ℕ → List ℕ → List ℕ
columns x v =
    G (G (G (G v 0 4 8 12 (get_or x 0 0) (get_or x 1 0)) 1 5 9 13 (get_or x 2 0) (get_or x 3 0)) 2 6 10 14 (get_or x 4 0) (get_or x 5 0))
    3 7 11 15 (get_or x 6 0) (get_or x 7 0)

abbrev diagonals : List ℕ → List ℕ → List ℕ
diagonals x v =
    G (G (G (G v 0 5 10 15 (get_or x 8 0) (get_or x 9 0)) 1 6 11 12 (get_or x 10 0) (get_or x 11 0)) 2 7 8 13 (get_or x 12 0) (get_or x 13 0))
    3 4 9 14 (get_or x 14 0) (get_or x 15 0)

-- one round more
round-more : (i : ℕ) (m v₀ : List ℕ) {v c r : List ℕ} → v ≡ rounds i m v₀ → c ≡ columns (chosen i m) v → r ≡ diagonals (chosen i m) c
    → r ≡ rounds (suc i) m v₀
unfolding rounds round
round-more i m v₀ p pc pr = let x = chosen i m in pr ∙ ap (diagonals x) (pc ∙ ap (columns x) p)

-- the twelve rounds, from what each half of each is
pub twelve : (m v : List ℕ) {c0 r0 c1 r1 c2 r2 c3 r3 c4 r4 c5 r5 c6 r6 c7 r7 c8 r8 c9 r9 c10 r10 c11 r11 : List ℕ}
    → c0 ≡ columns (chosen 0 m) v → r0 ≡ diagonals (chosen 0 m) c0 → c1 ≡ columns (chosen 1 m) r0 → r1 ≡ diagonals (chosen 1 m) c1
    → c2 ≡ columns (chosen 2 m) r1 → r2 ≡ diagonals (chosen 2 m) c2 → c3 ≡ columns (chosen 3 m) r2 → r3 ≡ diagonals (chosen 3 m) c3
    → c4 ≡ columns (chosen 4 m) r3 → r4 ≡ diagonals (chosen 4 m) c4 → c5 ≡ columns (chosen 5 m) r4 → r5 ≡ diagonals (chosen 5 m) c5
    → c6 ≡ columns (chosen 6 m) r5 → r6 ≡ diagonals (chosen 6 m) c6 → c7 ≡ columns (chosen 7 m) r6 → r7 ≡ diagonals (chosen 7 m) c7
    → c8 ≡ columns (chosen 8 m) r7 → r8 ≡ diagonals (chosen 8 m) c8 → c9 ≡ columns (chosen 9 m) r8 → r9 ≡ diagonals (chosen 9 m) c9
    → c10 ≡ columns (chosen 10 m) r9 → r10 ≡ diagonals (chosen 10 m) c10 → c11 ≡ columns (chosen 11 m) r10 → r11 ≡ diagonals (chosen 11 m) c11
    → r11 ≡ rounds 12 m v
unfolding rounds
twelve m v e0 f0 e1 f1 e2 f2 e3 f3 e4 f4 e5 f5 e6 f6 e7 f7 e8 f8 e9 f9 e10 f10 e11 f11 =
    let to-0 = round-more 0 m v refl e0 f0 in let to-1 = round-more 1 m v to-0 e1 f1 in
    let to-2 = round-more 2 m v to-1 e2 f2 in let to-3 = round-more 3 m v to-2 e3 f3 in
    let to-4 = round-more 4 m v to-3 e4 f4 in let to-5 = round-more 5 m v to-4 e5 f5 in
    let to-6 = round-more 6 m v to-5 e6 f6 in let to-7 = round-more 7 m v to-6 e7 f7 in
    let to-8 = round-more 8 m v to-7 e8 f8 in let to-9 = round-more 9 m v to-8 e9 f9 in
    let to-10 = round-more 10 m v to-9 e10 f10 in
    round-more 11 m v to-10 e11 f11

-- the parts of F
pub whole : {v w r : List ℕ} (h m : List ℕ) (t : ℕ) (f : Bool) → v ≡ local h t f → w ≡ rounds 12 m v → r ≡ folded h w → r ≡ F h m t f
unfolding F
whole h m t f ev ew er = er ∙ ap (folded h) (ew ∙ ap (rounds 12 m) ev)

-- the n elements from i on, written out
listed : ℕ → ℕ → List ℕ → List ℕ
listed zero i l = []
listed (suc n) i l = get_or l i 0 ∷ listed n (suc i) l

front : (n i : ℕ) (l : List ℕ) → i + n ≤ length l → take n (drop i l) ≡ listed n i l
unfolding listed
front zero i l h = refl
front (suc n) i l h = ap (take (suc n)) (drop-cons l i 0 (omega arith)) ∙ (ap (λ (r : List ℕ). get_or l i 0 ∷ r) (front n (suc i) l (omega arith)))

-- a state of eight words, written out
eight : (h : List ℕ) → length h ≡ 8
    → h ≡ get_or h 0 0 ∷ get_or h 1 0 ∷ get_or h 2 0 ∷ get_or h 3 0 ∷ get_or h 4 0 ∷ get_or h 5 0 ∷ get_or h 6 0 ∷ get_or h 7 0 ∷ []
unfolding listed
eight h e = sym (take_all 8 h (omega arith)) ∙ front 8 0 h (omega arith)

-- at a counter of one word, v[13] stays
counted : (v : List ℕ) (t : ℕ) → t < 2 ^ 64 → xor_at (xor_at v 12 (t % 2 ^ 64)) 13 (t / 2 ^ 64) ≡ xor_at v 12 t
unfolding xor_at
counted v t h =
    let low : t % 2 ^ 64 ≡ t = omega arith in
    let high : t / 2 ^ 64 ≡ 0 = omega arith in
    ap (λ (n : ℕ). xor_at (xor_at v 12 (t % 2 ^ 64)) 13 n) high
    ∙ ap (λ (n : ℕ). set (xor_at v 12 (t % 2 ^ 64)) 13 n) (xor_zero_r (get_or (xor_at v 12 (t % 2 ^ 64)) 13 0))
    ∙ set-get_or (xor_at v 12 (t % 2 ^ 64)) 13 0
    ∙ ap (xor_at v 12) low

-- the vector with its counter, from the state written out
pub vector : (h : List ℕ) (t : ℕ) → length h ≡ 8 → t < 2 ^ 64
    → xor_at (get_or h 0 0 ∷ get_or h 1 0 ∷ get_or h 2 0 ∷ get_or h 3 0 ∷ get_or h 4 0 ∷ get_or h 5 0 ∷ get_or h 6 0 ∷ get_or h 7 0 ∷ IV) 12 t
    ≡ xor_at (xor_at (h ++ IV) 12 (t % 2 ^ 64)) 13 (t / 2 ^ 64)
vector h t e b = sym (counted (h ++ IV) t b ∙ ap (λ (l : List ℕ). xor_at (l ++ IV) 12 t) (eight h e))

-- The data in blocks: padding, one block after another, the key's block, and the bytes of a state. Assumes nothing.
use Rattle.lists.proofs.Kit.{◌≡◌, refl, sym, ap, ◌∙◌, Bool, true, false, List, [], ◌∷◌, ◌++◌, append-nil, append_assoc, ℕ, zero, suc, ◌+◌, ◌-◌, ◌*◌, ◌≤◌}
use Rattle.lists.proofs.Kit.{◌<◌, arith, length, get_or, take, drop, take-append-drop, length-append, length-drop, length-replicate, take_all, take_at}
use Rattle.lists.proofs.Kit.{take-suc, take-append-add, drop_at, drop-drop, length-take-le}
use Rattle.std.proofs.Common.{add-one}
use Rattle.area.specs.Area.{part, put, zeros}
use Rattle.area.specs.Little.{bytes_of}
use Rattle.area.proofs.Laws.Parts.{part-part}
use Rattle.area.proofs.Laws.Puts.{put_is, put_all, put-append, part-put, part-behind}
use Rattle.area.proofs.Laws.Little.{length-bytes}
use Rattle.blake2b.specs.Compression.{F, words}
use Rattle.blake2b.specs.Blake2b.{bytes, padded, keyed, before, start, absorbed, finished, blake2b, opened}

-- ---- padding

take-replicate : (n k : ℕ) → n ≤ k → take {A = ℕ} n (zeros k) ≡ zeros n
take-replicate zero k h = refl
take-replicate (suc n) zero h = absurd (omega arith)
take-replicate (suc n) (suc k) h = ap (λ (l : List ℕ). 0 ∷ l) (take-replicate n k (omega arith))

drop-replicate : (n k : ℕ) → drop {A = ℕ} n (zeros k) ≡ zeros (k - n)
drop-replicate zero k = ap (λ (m : ℕ). zeros m) (let e : k ≡ k - 0 = omega arith in e)
drop-replicate (suc n) zero = ap (λ (m : ℕ). zeros m) (let e : 0 ≡ 0 - suc n = omega arith in e)
drop-replicate (suc n) (suc k) = drop-replicate n k ∙ ap (λ (m : ℕ). zeros m) (let e : k - n ≡ suc k - suc n = omega arith in e)

-- bytes laid over a block of zeros
pub padded-put : (bs : List ℕ) → length bs ≤ 128 → put (zeros 128) 0 bs ≡ padded bs
unfolding padded
padded-put bs h =
    let k : 128 ≡ length bs + (128 - length bs) = omega arith in
    put_is (zeros 128) 0 bs (length bs) (omega arith) (omega (arith, length-replicate {A = ℕ} 128 0))
    ∙ ap (λ (l : List ℕ). bs ++ l) (drop-replicate (length bs) 128 ∙ sym (take-replicate (128 - length bs) 128 (omega arith)))
    ∙ sym (ap (λ (n : ℕ). take n (bs ++ zeros 128)) k ∙ take-append-add bs (zeros 128) (128 - length bs))

pub length-padded : (bs : List ℕ) → length (padded bs) ≡ 128
unfolding padded
length-padded bs = length-take-le 128 (bs ++ zeros 128) (simp (length-append, length-replicate) (omega arith))

-- a whole block stays
padded-whole : (bs : List ℕ) → length bs ≡ 128 → padded bs ≡ bs
unfolding padded
padded-whole bs e = take_at bs (zeros 128) 128 e

-- a part of the padded bytes that lies within them, and one behind them
pub padded-inside : (bs : List ℕ) (at n : ℕ) → length bs ≤ 128 → at + n ≤ length bs → part (padded bs) at n ≡ part bs at n
padded-inside bs at n h l =
    let z : at ≡ 0 + at = omega arith in
    let laid : List ℕ = put (zeros 128) 0 bs in
    ap (λ (d : List ℕ). part d at n) (sym (padded-put bs h))
    ∙ ap (λ (k : ℕ). part laid k n) z
    ∙ sym (part-part laid 0 (length bs) at n l)
    ∙ ap (λ (d : List ℕ). part d at n) (part-put (zeros 128) 0 bs (length bs) refl (omega (arith, length-replicate {A = ℕ} 128 0)))

pub padded-behind : (bs : List ℕ) (at n : ℕ) → length bs ≤ 128 → length bs ≤ at → part (padded bs) at n ≡ part (zeros 128) at n
padded-behind bs at n h l =
    ap (λ (d : List ℕ). part d at n) (sym (padded-put bs h)) ∙ part-behind (zeros 128) 0 bs at n (omega arith)

-- ---- a block: F of its words

pub of_words : {m r : List ℕ} (h b : List ℕ) (t : ℕ) (f : Bool) → m ≡ words b → r ≡ F h m t f → r ≡ F h (words b) t f
of_words h b t f e p = p ∙ ap (λ (l : List ℕ). F h l t f) e

-- one block, and no more
pub one_block : (d h : List ℕ) (u : ℕ) {r : List ℕ} → length d ≤ 128 → u ≡ length d → r ≡ F h (words (padded d)) u true → r ≡ finished d h
unfolding absorbed
one_block d h u l e p =
    let n : before d ≡ 0 = omega arith in
    let t : u ≡ 0 + length d = omega arith in
    p ∙ ap (λ (k : ℕ). F h (words (padded d)) k true) t ∙ ap (λ (k : ℕ). absorbed k 0 d h) (sym n)

-- ---- the loop: the data from i on, where i bytes were absorbed

module _ (d : List ℕ) (t : ℕ) where
  -- one block more
  pub absorbed-more : (h r : List ℕ) (i w u : ℕ) → 128 < length d - i → w ≡ 128 → u ≡ t + (i + 128) → r ≡ F h (words (take w (drop i d))) u false
      → absorbed (before (drop i d)) (t + i) (drop i d) h ≡ absorbed (before (drop (i + 128) d)) (t + (i + 128)) (drop (i + 128) d) r
  unfolding absorbed
  absorbed-more h r i w u l ew eu e =
      let n : before (drop i d) ≡ suc (before (drop (i + 128) d)) = omega (arith, length-drop i d, length-drop (i + 128) d) in
      let a : t + i + 128 ≡ t + (i + 128) = omega arith in
      let q : F h (words (take 128 (drop i d))) (t + (i + 128)) false ≡ r = sym (e ∙ (λ x. F h (words (take (ew x) (drop i d))) (eu x) false)) in
      ap (λ (k : ℕ). absorbed k (t + i) (drop i d) h) n
      ∙ ap (λ (k : ℕ). absorbed (before (drop (i + 128) d)) k (drop 128 (drop i d)) (F h (words (take 128 (drop i d))) k false)) a
      ∙ (λ x. absorbed (before (drop (i + 128) d)) (t + (i + 128)) (drop-drop 128 i d x) (q x))

  -- the last one
  pub absorbed-last : (h b r : List ℕ) (i w u : ℕ) → i ≤ length d → length d - i ≤ 128 → w ≡ length d - i → u ≡ t + length d → b ≡ padded (take w (drop i d))
      → r ≡ F h (words b) u true → r ≡ absorbed (before (drop i d)) (t + i) (drop i d) h
  unfolding absorbed
  absorbed-last h b r i w u g l ew eu eb e =
      let n : before (drop i d) ≡ 0 = omega (arith, length-drop i d) in
      let a : t + length d ≡ t + i + length (drop i d) = omega (arith, length-drop i d) in
      let q : take w (drop i d) ≡ drop i d = take_all w (drop i d) (omega (arith, length-drop i d)) in
      e ∙ (λ x. F h (words (eb x)) (eu x) true) ∙ (λ x. F h (words (padded (q x))) (a x) true)
      ∙ ap (λ (k : ℕ). absorbed k (t + i) (drop i d) h) (sym n)

-- ---- the key's block first

pub unkeyed : (key message h : List ℕ) {r : List ℕ} → length key ≡ 0 → r ≡ absorbed (before message) 0 message h → r ≡ finished (keyed key message) h
unfolding keyed
unkeyed [] message h e p = p
unkeyed (k ∷ ks) message h e p = absurd (omega arith)

keyed-some : (key message : List ℕ) → (length key ≡ 0 → ⊥) → keyed key message ≡ padded key ++ message
unfolding keyed
keyed-some [] message n = absurd (n refl)
keyed-some (k ∷ ks) message n = refl

nothing : (l : List ℕ) → length l ≡ 0 → l ≡ []
nothing [] e = refl
nothing (x ∷ xs) e = absurd (omega arith)

-- no message: the key's block is the last
pub keyed-alone : (key message h : List ℕ) {b r : List ℕ} → (length key ≡ 0 → ⊥) → length message ≡ 0 → b ≡ padded key → r ≡ F h (words b) 128 true
    → r ≡ finished (keyed key message) h
keyed-alone key message h n z p e =
    let k : List ℕ = padded key in
    let l : length k ≡ 128 = length-padded key in
    let whole : keyed key message ≡ k = keyed-some key message n ∙ ap (λ (m : List ℕ). k ++ m) (nothing message z) ∙ append-nil k in
    one_block k h 128 (omega arith) (omega arith) (e ∙ ap (λ (b : List ℕ). F h (words b) 128 true) (p ∙ sym (padded-whole k l)))
    ∙ ap (λ (d : List ℕ). finished d h) (sym whole)

-- the key's block, then the message
pub keyed-more : (key message h : List ℕ) {b g r : List ℕ} → (length key ≡ 0 → ⊥) → (length message ≡ 0 → ⊥) → b ≡ padded key → g ≡ F h (words b) 128 false
    → r ≡ absorbed (before message) 128 message g → r ≡ finished (keyed key message) h
unfolding absorbed
keyed-more key message h {g = g} n z p q e =
    let k : List ℕ = padded key in
    let l : length k ≡ 128 = length-padded key in
    let more : before (k ++ message) ≡ suc (before message) = omega (arith, length-append k message) in
    let first : g ≡ F h (words (take 128 (k ++ message))) 128 false = q ∙ ap (λ (x : List ℕ). F h (words x) 128 false) (p ∙ sym (take_at k message 128 l)) in
    let rest : message ≡ drop 128 (k ++ message) = sym (drop_at k message 128 l) in
    e ∙ (λ x. absorbed (before message) 128 (rest x) (first x))
    ∙ ap (λ (i : ℕ). absorbed i 0 (k ++ message) h) (sym more)
    ∙ ap (λ (d : List ℕ). finished d h) (sym (keyed-some key message n))

-- ---- the state at the end, and its bytes

-- whatever the data, the state at the end is eight words
pub length-absorbed : (n t : ℕ) (d h : List ℕ) → length (absorbed n t d h) ≡ 8
unfolding absorbed F
length-absorbed zero t d h = refl
length-absorbed (suc n) t d h = length-absorbed n (t + 128) (drop 128 d) (F h (words (take 128 d)) (t + 128) _)

pub length-state : (h : List ℕ) → length (bytes h) ≡ 8 * length h
unfolding bytes
length-state [] = refl
length-state (x ∷ xs) = length-append (bytes_of 8 x) (bytes xs) ∙ omega (arith, length-bytes 8 x, length-state xs)

bytes-append : (g h : List ℕ) → bytes (g ++ h) ≡ bytes g ++ bytes h
unfolding bytes
bytes-append [] h = refl
bytes-append (x ∷ xs) h = ap (λ (l : List ℕ). bytes_of 8 x ++ l) (bytes-append xs h) ∙ sym (append_assoc (bytes_of 8 x) (bytes xs) (bytes h))

bytes_one : (x : ℕ) → bytes (x ∷ []) ≡ bytes_of 8 x
unfolding bytes
bytes_one x = append-nil (bytes_of 8 x)

-- one word more
pub bytes-more : {e l : List ℕ} (a h : List ℕ) (i : ℕ) → length h ≡ 8 → i < 8 → e ≡ put a 0 (bytes (take i h)) → l ≡ put e (8 * i) (bytes_of 8 (get_or h i 0))
    → l ≡ put a 0 (bytes (take (i + 1) h))
bytes-more a h i n g p q =
    q ∙ ap (λ (x : List ℕ). put x (8 * i) (bytes_of 8 (get_or h i 0))) p
    ∙ put-append a 0 (bytes (take i h)) (bytes_of 8 (get_or h i 0)) (8 * i) (omega (arith, length-state (take i h), length-take-le i h (omega arith)))
    ∙ ap (put a 0)
    (ap (λ (l : List ℕ). bytes (take i h) ++ l) (sym (bytes_one (get_or h i 0)))
    ∙ sym (bytes-append (take i h) (get_or h i 0 ∷ []))
    ∙ ap bytes (sym (take-suc h i 0 (omega arith)) ∙ ap (λ (n : ℕ). take n h) (sym (add-one i))))

-- the first k words are the first 8 k bytes
pub bytes-front : (k : ℕ) (h : List ℕ) → k ≤ length h → take (8 * k) (bytes h) ≡ bytes (take k h)
bytes-front k h l =
    ap (λ (x : List ℕ). take (8 * k) (bytes x)) (sym (take-append-drop k h))
    ∙ ap (take (8 * k)) (bytes-append (take k h) (drop k h))
    ∙ take_at (bytes (take k h)) (bytes (drop k h)) (8 * k) (omega (arith, length-state (take k h), length-take-le k h l))

-- all eight words: as many bytes as the area has
pub bytes-all : {all r : List ℕ} (h out : List ℕ) (i : ℕ) → length h ≡ 8 → 8 ≤ i → length out ≤ 64 → all ≡ put (zeros 64) 0 (bytes (take i h))
    → r ≡ put out 0 (part all 0 (length out)) → r ≡ take (length out) (bytes h)
unfolding part
bytes-all {all} h out i n g m p q =
    let l : length (bytes h) ≡ 64 = omega (arith, length-state h) in
    let w : all ≡ bytes h = p ∙ ap (λ (x : List ℕ). put (zeros 64) 0 (bytes x)) (take_all i h (omega arith)) ∙ put_all (zeros 64) (bytes h) l in
    q ∙ ap (λ (x : List ℕ). put out 0 (take (length out) x)) w
    ∙ put_all out (take (length out) (bytes h)) (length-take-le (length out) (bytes h) (omega arith))

-- what it is the digest of: the state from the start past the data, its bytes written
pub by_blocks : {g h r : List ℕ} (nn : ℕ) (key message : List ℕ) → g ≡ start nn (length key) → h ≡ finished (keyed key message) g
    → r ≡ take nn (bytes h) → r ≡ blake2b nn key message
by_blocks nn key message eg eh er =
    er ∙ ap (λ (l : List ℕ). take nn (bytes l)) (eh ∙ ap (finished (keyed key message)) eg) ∙ sym (opened nn key message)

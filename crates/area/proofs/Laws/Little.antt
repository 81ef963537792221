-- Numbers in bytes: both round trips, and bytes that are read or written in two parts. Assumes nothing.
use Rattle.lists.proofs.Kit.{◌≡◌, refl, sym, ap, ◌∙◌, List, [], ◌∷◌, ◌++◌, ℕ, zero, suc, ◌+◌, ◌-◌, ◌*◌, ◌/◌, ◌%◌, ◌^◌, ◌<◌, pow-succ', mul_assoc}
use Rattle.lists.proofs.Kit.{arith, length, take, drop, get_or, drop-cons}
use native.Mathlib.Numerals.{add-one}
use Rattle.std.specs.Int.{w64, from_le_bytes}
use Rattle.area.specs.Area.{part}
use Rattle.area.specs.Little.{value_of, bytes_of, Bytes}
use Rattle.area.proofs.Laws.Parts.{part-one}

pub length-bytes : (k n : ℕ) → length (bytes_of k n) ≡ k
unfolding bytes_of
length-bytes zero n = refl
length-bytes (suc k) n = ap suc (length-bytes k (n / 256))

pub bytes_below : (k n : ℕ) → Bytes (bytes_of k n)
unfolding bytes_of Bytes
bytes_below zero n i = omega arith
bytes_below (suc k) n zero = omega arith
bytes_below (suc k) n (suc i) = bytes_below k (n / 256) i

-- ---- bytes in lists

pub append-below : (xs ys : List ℕ) → Bytes xs → Bytes ys → Bytes (xs ++ ys)
unfolding Bytes
append-below [] ys a b i = b i
append-below (x ∷ xs) ys a b zero = a zero
append-below (x ∷ xs) ys a b (suc i) = append-below xs ys (λ k. a (suc k)) b i

pub take_below : (n : ℕ) (xs : List ℕ) → Bytes xs → Bytes (take n xs)
unfolding Bytes
take_below zero xs a i = omega arith
take_below (suc n) [] a i = omega arith
take_below (suc n) (x ∷ xs) a zero = a zero
take_below (suc n) (x ∷ xs) a (suc i) = take_below n xs (λ k. a (suc k)) i

pub drop-below : (n : ℕ) (xs : List ℕ) → Bytes xs → Bytes (drop n xs)
unfolding Bytes
drop-below zero xs a i = a i
drop-below (suc n) [] a i = omega arith
drop-below (suc n) (x ∷ xs) a i = drop-below n xs (λ k. a (suc k)) i

-- ---- the round trips

pub value-bytes : (k n : ℕ) → n < 256 ^ k → value_of (bytes_of k n) ≡ n
unfolding value_of bytes_of
value-bytes zero n h = omega (arith, h)
value-bytes (suc k) n h =
    let g : n < 256 * 256 ^ k = rw pow-succ' at h in
    let q : n / 256 < 256 ^ k = omega arith in
    rw (value-bytes k (n / 256) q) (omega arith)

pub bytes-value : (xs : List ℕ) → Bytes xs → bytes_of (length xs) (value_of xs) ≡ xs
unfolding value_of bytes_of Bytes
bytes-value [] b = refl
bytes-value (x ∷ xs) b =
    let h : x < 256 = b 0 in
    let m : (x + 256 * value_of xs) % 256 ≡ x = omega arith in
    let d : (x + 256 * value_of xs) / 256 ≡ value_of xs = omega arith in
    rw (m, d, bytes-value xs (λ i. b (suc i)))

-- ---- in two parts

pub value-append : (xs ys : List ℕ) → value_of (xs ++ ys) ≡ value_of xs + 256 ^ length xs * value_of ys
unfolding value_of
value-append [] ys = omega arith
value-append (x ∷ xs) ys =
    let m : 256 * 256 ^ length xs * value_of ys ≡ 256 * (256 ^ length xs * value_of ys) = mul_assoc 256 (256 ^ length xs) (value_of ys) in
    rw (value-append xs ys, pow-succ') (omega arith)

-- 8 bytes, as std reads them
pub value_le8 : (xs : List ℕ) → length xs ≡ 8 → from_le_bytes w64 xs ≡ value_of xs
unfolding value_of
value_le8 (a ∷ b ∷ c ∷ d ∷ e ∷ f ∷ g ∷ h ∷ []) l = omega arith
value_le8 [] l = absurd (omega arith)
value_le8 (a ∷ []) l = absurd (omega arith)
value_le8 (a ∷ b ∷ []) l = absurd (omega arith)
value_le8 (a ∷ b ∷ c ∷ []) l = absurd (omega arith)
value_le8 (a ∷ b ∷ c ∷ d ∷ []) l = absurd (omega arith)
value_le8 (a ∷ b ∷ c ∷ d ∷ e ∷ []) l = absurd (omega arith)
value_le8 (a ∷ b ∷ c ∷ d ∷ e ∷ f ∷ []) l = absurd (omega arith)
value_le8 (a ∷ b ∷ c ∷ d ∷ e ∷ f ∷ g ∷ []) l = absurd (omega arith)
value_le8 (a ∷ b ∷ c ∷ d ∷ e ∷ f ∷ g ∷ h ∷ x ∷ xs) l = absurd (omega arith)

-- one byte
pub value-one : (b : List ℕ) (at : ℕ) → at < length b → get_or b at 0 ≡ value_of (part b at 1)
unfolding value_of
value-one b at h = rw (part-one b at h) (omega arith)

first : (k n : ℕ) → bytes_of (suc k) n ≡ n % 256 ∷ bytes_of k (n / 256)
unfolding bytes_of
first k n = refl

-- what is left to write: its first byte, and the rest
pub bytes_left : (k i n rest : ℕ) → i < k → drop i (bytes_of k n) ≡ bytes_of (k - i) rest
    → (rest % 256 ≡ get_or (bytes_of k n) i 0) × (drop (i + 1) (bytes_of k n) ≡ bytes_of (k - (i + 1)) (rest / 256))
bytes_left k i n rest h e =
    let s : k - i ≡ suc (k - (i + 1)) = omega arith in
    let l : i < length (bytes_of k n) = omega (arith, length-bytes k n) in
    let q : get_or (bytes_of k n) i 0 ∷ drop (suc i) (bytes_of k n) ≡ rest % 256 ∷ bytes_of (k - (i + 1)) (rest / 256) =
    sym (drop-cons (bytes_of k n) i 0 l) ∙ e ∙ ap (λ (j : ℕ). bytes_of j rest) s ∙ first (k - (i + 1)) rest in
    (cc, ap (λ (j : ℕ). drop j (bytes_of k n)) (add-one i) ∙ cc)

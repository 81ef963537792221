-- std's rotation joins its two shifts by `or`, the RFC by `xor`: they have no bit in common. Assumes nothing.
use Rattle.lists.proofs.Kit.{◌≡◌, sym, ap, ◌∙◌, ℕ, ◌+◌, ◌-◌, ◌*◌, ◌/◌, ◌%◌, ◌^◌, ◌<◌, arith, div-lt_iff_lt-mul, div-add-mod', mod-lt, add-mul, mul_assoc}
use Rattle.lists.proofs.Kit.{zero-mul, zero-add}
use Rattle.lists.proofs.Kit.{add-zero, mul-lt-mul_of_pos_right}
use Rattle.std.proofs.lemmas.Nat.{pow-add, pow_pos, mod-mul-add, and_block}
use Rattle.std.specs.Int.Bits.{xor_disjoint, or_shifted_r, and_zero_l, and_zero_r}
use Rattle.std.specs.Int.{w64, rotate_right}
use Rattle.std.specs.Prelude.{bit_and, bit_or, bit_xor}
use Rattle.blake2b.specs.Compression.{rotr}

-- numbers with no bit in common
apart : (k r b : ℕ) → r < 2 ^ k → bit_or r (b * 2 ^ k) ≡ bit_xor r (b * 2 ^ k)
apart k r b h =
    let none : bit_and r (b * 2 ^ k) ≡ 0 =
    (λ i. bit_and (sym (ap (λ (m : ℕ). m + r) (zero-mul (2 ^ k)) ∙ zero-add r) i) (sym (add-zero (b * 2 ^ k)) i))
    ∙ and_block k 0 b r 0 h (pow_pos k)
    ∙ (λ i. and_zero_l b i * 2 ^ k + and_zero_r r i) ∙ ap (λ (m : ℕ). m + 0) (zero-mul (2 ^ k)) in
    let sum : bit_or r (b * 2 ^ k) ≡ b * 2 ^ k + r = or_shifted_r b k r h in
    let both : bit_xor r (b * 2 ^ k) ≡ r + b * 2 ^ k = xor_disjoint r (b * 2 ^ k) none in
    omega (arith, sum, both)

-- what is shifted out above is gone
shifted : (n k x : ℕ) → n + k ≡ 64 → x * 2 ^ k % 2 ^ 64 ≡ x % 2 ^ n * 2 ^ k
shifted n k x e =
    let whole : 2 ^ 64 ≡ 2 ^ n * 2 ^ k = ap (λ (m : ℕ). 2 ^ m) (sym e) ∙ pow-add 2 n k in
    let few : x % 2 ^ n * 2 ^ k < 2 ^ 64 =
    omega (arith, whole, mul-lt-mul_of_pos_right {m = x % 2 ^ n} {n = 2 ^ n} {k = 2 ^ k} (mod-lt x (pow_pos n)) (pow_pos k)) in
    let parts : x * 2 ^ k ≡ x / 2 ^ n * 2 ^ 64 + x % 2 ^ n * 2 ^ k =
    ap (λ (m : ℕ). m * 2 ^ k) (sym (div-add-mod' x (2 ^ n)))
    ∙ add-mul (x / 2 ^ n * 2 ^ n) (x % 2 ^ n) (2 ^ k)
    ∙ ap (λ (m : ℕ). m + x % 2 ^ n * 2 ^ k) (mul_assoc (x / 2 ^ n) (2 ^ n) (2 ^ k) ∙ ap (λ (m : ℕ). x / 2 ^ n * m) (sym whole)) in
    ap (λ (m : ℕ). m % 2 ^ 64) parts ∙ mod-mul-add (x / 2 ^ n) (2 ^ 64) (x % 2 ^ n * 2 ^ k) few

pub rotates : (n x : ℕ) → 0 < n → n < 64 → x < 2 ^ 64 → rotate_right w64 x n ≡ rotr n x
unfolding rotr
rotates n x g h few =
    let k : ℕ = 64 - n in
    let e : n + k ≡ 64 = omega arith in
    let low : n % 64 ≡ n = omega arith in
    let back : (64 - n) % 64 ≡ k = omega arith in
    let back-e : 64 ≡ k + n = omega arith in
    let whole : 2 ^ 64 ≡ 2 ^ k * 2 ^ n = ap (λ (m : ℕ). 2 ^ m) back-e ∙ pow-add 2 k n in
    let less : x / 2 ^ n < 2 ^ k = (div-lt_iff_lt-mul {k = 2 ^ n} {x = x} {y = 2 ^ k} (pow_pos n)).1 (omega (arith, whole)) in
    let high : x * 2 ^ k % 2 ^ 64 ≡ x % 2 ^ n * 2 ^ k = shifted n k x e in
    ap (λ (m : ℕ). bit_or (x / 2 ^ m) (x * 2 ^ ((64 - m) % 64) % 2 ^ 64)) low
    ∙ ap (λ (m : ℕ). bit_or (x / 2 ^ n) (x * 2 ^ m % 2 ^ 64)) back
    ∙ ap (λ (m : ℕ). bit_or (x / 2 ^ n) m) high
    ∙ apart k (x / 2 ^ n) (x % 2 ^ n) less
    ∙ ap (λ (m : ℕ). bit_xor (x / 2 ^ n) m) (sym high)

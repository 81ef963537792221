-- BLAKE2b as RFC 7693 has it, in its order and letters, on numbers and lists of them, from its compression function F (Compression.antt); a
-- number in parentheses is a section of the RFC. bb, the block's bytes, is 128. Assumes nothing.
use Rattle.std.specs.Prelude.{◌≡◌, ℕ, zero, suc, ◌+◌, ◌-◌, ◌*◌, ◌/◌, ◌^◌, true, false, List, [], ◌∷◌, ◌++◌, length, take, drop, bit_xor, slice_index, slice_set, refl}
use Rattle.area.specs.Area.{zeros}
use Rattle.area.specs.Little.{bytes_of}
use Rattle.blake2b.specs.Compression.{IV, words, F}

-- (2.4) the bytes of words
unfoldable pub bytes : List ℕ → List ℕ
bytes [] = []
bytes (x ∷ xs) = bytes_of 8 x ++ bytes xs

-- (3.3) bytes filled up with zeros to a block
unfoldable pub padded : List ℕ → List ℕ
padded bs = take 128 (bs ++ zeros 128)

-- (3.3) the data: the key, where there is one, padded to a block of its own; then the message
unfoldable pub keyed : List ℕ → List ℕ → List ℕ
keyed [] message = message
keyed (k ∷ ks) message = padded (k ∷ ks) ++ message

-- (3.3) how many blocks of the data stand before the last; no data is one block of zeros
abbrev pub before : List ℕ → ℕ
before d = (length d - 1) / 128

-- (3.3) the state h at the start, for a digest of nn bytes and a key of kk
unfoldable pub start : ℕ → ℕ → List ℕ
start nn kk = slice_set IV 0 (bit_xor (bit_xor (bit_xor (slice_index IV 0) 0x0101_0000) (kk * 2 ^ 8)) nn)

-- (3.3) the state after the data d, of which n blocks stand before the last, where t bytes came before d: each block is taken at
-- the count of the bytes up to its end; the last one, padded, at the count of all, with the final flag
unfoldable pub absorbed : ℕ → ℕ → List ℕ → List ℕ → List ℕ
absorbed zero t d h = F h (words (padded d)) (t + length d) true
absorbed (suc n) t d h = absorbed n (t + 128) (drop 128 d) (F h (words (take 128 d)) (t + 128) false)

-- (3.3) the state after all the data
abbrev pub finished : List ℕ → List ℕ → List ℕ
finished d h = absorbed (before d) 0 d h

-- (3.3) the digest of nn bytes of the message under the key. It is shut: outside this module it is what `opened` says
pub blake2b : ℕ → List ℕ → List ℕ → List ℕ
blake2b nn key message = take nn (bytes (finished (keyed key message) (start nn (length key))))

-- for the proofs of this crate alone
pub opened : (nn : ℕ) (key message : List ℕ) → blake2b nn key message ≡ take nn (bytes (finished (keyed key message) (start nn (length key))))
unfolding blake2b
opened nn key message = refl

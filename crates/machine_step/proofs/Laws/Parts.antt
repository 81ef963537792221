-- A record is its front and what stands behind it. Assumes nothing.
use Rattle.lists.proofs.Kit.{◌≡◌, sym, ap, ◌∙◌, List, ◌++◌, append_assoc, ℕ, ◌+◌, ◌*◌, ◌-◌, arith, length, take, drop, length-drop, length-append}
use borrow.Rule.Slice.PartMut.{put_mid}
use Rattle.area.specs.Area.{put}
use Rattle.area.specs.Little.{le8}
use Rattle.area.proofs.Laws.Little.{length-bytes}
use Rattle.area.proofs.Laws.Lent.{rest-take, more}
use Rattle.sia.proofs.Laws.Joined.{lay-two}
use Rattle.machine_rules.specs.Record.{record_bytes}
use Rattle.machine_step.specs.Front.{front}
use Rattle.machine_rules.specs.declared.Pair.{Pair}

pub record-front : (number cost : ℕ) (p : Pair) (hashes : ℕ) (rest : List ℕ)
    → le8 number ++ (le8 cost ++ (le8 p.size ++ (p.root ++ (le8 hashes ++ rest)))) ≡ front number cost p hashes ++ rest
unfolding front
record-front number cost p hashes rest =
    sym (append_assoc (le8 number) _ rest ∙ ap (λ (l : List ℕ). le8 number ++ l)
    (append_assoc (le8 cost) _ rest ∙ ap (λ (l : List ℕ). le8 cost ++ l)
    (append_assoc (le8 p.size) _ rest ∙ ap (λ (l : List ℕ). le8 p.size ++ l) (append_assoc p.root (le8 hashes) rest))))

pub length_front : (number cost : ℕ) (p : Pair) (hashes : ℕ) → length p.root ≡ 32 → length (front number cost p hashes) ≡ 64
unfolding front
length_front number cost p hashes e =
    omega (
      arith,
      length-append (le8 number) (le8 cost ++ (le8 p.size ++ (p.root ++ le8 hashes))),
      length-append (le8 cost) (le8 p.size ++ (p.root ++ le8 hashes)),
      length-append (le8 p.size) (p.root ++ le8 hashes),
      length-append p.root (le8 hashes),
      length-bytes 8 number,
      length-bytes 8 cost,
      length-bytes 8 p.size,
      length-bytes 8 hashes,
    )

-- the rest of an area from `at` on
pub rest-long : (d : List ℕ) (at : ℕ) → length (take (length d - at) (drop at d)) ≡ length d - at
rest-long d at = ap length (rest-take d at) ∙ length-drop at d

-- the four parts of a record, laid one behind the other
pub record-parts : (number cost : ℕ) (p : Pair) (hashes : ℕ) (proof : List ℕ) (count : ℕ) (bytes : List ℕ) {k : ℕ} → k ≡ count
    → ((front number cost p hashes ++ proof) ++ le8 k) ++ bytes ≡ record_bytes number cost p hashes proof count bytes
unfolding record_bytes
record-parts number cost p hashes proof count bytes e =
    ap (λ (n : ℕ). ((front number cost p hashes ++ proof) ++ le8 n) ++ bytes) e
    ∙ append_assoc (front number cost p hashes ++ proof) (le8 count) bytes
    ∙ append_assoc (front number cost p hashes) proof (le8 count ++ bytes)
    ∙ sym (record-front number cost p hashes (proof ++ (le8 count ++ bytes)))

pub length_two : (number cost : ℕ) (p : Pair) (hashes : ℕ) (proof : List ℕ) → length p.root ≡ 32 → length proof ≡ 32 * hashes
    → length (front number cost p hashes ++ proof) ≡ 64 + 32 * hashes
length_two number cost p hashes proof e f = omega (arith, length-append (front number cost p hashes) proof, length_front number cost p hashes e)

pub length_three : (number cost : ℕ) (p : Pair) (hashes : ℕ) (proof : List ℕ) (k : ℕ) → length p.root ≡ 32 → length proof ≡ 32 * hashes
    → length ((front number cost p hashes ++ proof) ++ le8 k) ≡ 64 + 32 * hashes + 8
length_three number cost p hashes proof k e f =
    omega (arith, length-append (front number cost p hashes ++ proof) (le8 k), length_two number cost p hashes proof e f, length-bytes 8 k)

-- laid over the front of an area, then behind that over its rest
pub behind : (d xs ys : List ℕ) (at : ℕ) {e zs : List ℕ} → e ≡ put d 0 xs → length xs ≡ at → zs ≡ put (take (length e - at) (drop at e)) 0 ys
    → put_mid at (length e - at) e zs ≡ put d 0 (xs ++ ys)
behind d xs ys at p q r = more d 0 xs ys at p (omega arith) r

pub lay-behind : {a₁ a₂ : List ℕ} (a w x : List ℕ) (k : ℕ) → a₁ ≡ put a 0 w → a₂ ≡ put a₁ k x → length w ≡ k → a₂ ≡ put a 0 (w ++ x)
lay-behind a w x k p q l = lay-two a 0 w x k p q l (omega arith)

-- What stands in the area of a reader: bytes of a section, a number lowered behind it. Assumes nothing.
use Rattle.lists.proofs.Kit.{◌≡◌, refl, sym, ap, ap₂, ◌∙◌, List, ◌++◌, ℕ, ◌+◌, ◌-◌, ◌*◌, ◌≤◌, ◌<◌, min, arith, length, take, length-append, length-take}
use Rattle.lists.proofs.Kit.{take_at, drop_at, take_all, take-take, length-take-le, leb, ltb, le-ltb, leb-true, leb-false}
use Rattle.lists.proofs.Laws.Pick.{by, picks, skips}
use Rattle.area.specs.Area.{part, put}
use Rattle.area.specs.Little.{value_of, bytes_of, le8, Bytes}
use Rattle.area.proofs.Laws.Puts.{length-put, take_put}
use Rattle.area.proofs.Laws.Little.{length-bytes, bytes-value}
use Rattle.bench_program.specs.Input.{number_at}
use Rattle.bench_input.specs.Reader.{State, state, reader, ids_from, data_from, head_from, number_to, lowered, next_to, next, spare, laid, fed}
use Rattle.bench_input.specs.declared.Section.{Section}
use Rattle.bench_input.specs.declared.Section.TheVariants.{Front, Ids, Length, Head}
use Rattle.bench_input.specs.declared.Reader.{Reader}
use Rattle.bench_input.proofs.Laws.Sections.{number-front}
use Rattle.bench_input.proofs.Laws.Feeding.{ends}

-- the reader is r, and its a bytes in the area are k
pub record Stands (s : State) (r : Reader) (a : ℕ) (k : List ℕ) : Type 0 where
  pub same : s.reader ≡ r
  pub front : take a s.area ≡ k
  pub long : length s.area ≡ 68810

-- of another state that is the same, and of places and bytes that are the same
pub stands-as : {s t : State} {r : Reader} {a : ℕ} {k : List ℕ} → s ≡ t → Stands t r a k → Stands s r a k
stands-as {a = a} e h = record {
  same = ap (λ (x : State). x.reader) e ∙ h.same;
  front = ap (λ (x : State). take a x.area) e ∙ h.front;
  long = ap (λ (x : State). length x.area) e ∙ h.long;
}

pub stands_at : (f : ℕ → Reader) {s : State} {a b : ℕ} {k l : List ℕ} → a ≡ b → k ≡ l → Stands s (f a) a k → Stands s (f b) b l
stands_at f {s} p q h = record {
  same = h.same ∙ ap f p;
  front = ap (λ (n : ℕ). take n s.area) (sym p) ∙ h.front ∙ q;
  long = h.long;
}

-- ---- bytes laid

module _ {x : Section} {i l m a : ℕ} {s : State} {k : List ℕ} (h : Stands s (reader x i l m a) a k) (fits : a + m ≤ 68810) where
  -- the area has room for all that is kept
  room : spare (state (reader x i l m a) s.area) ≡ m
  unfolding spare
  room = let e = h.long in omega arith

  pub laid-stands : (bs : List ℕ)
      → Stands (laid s bs) (reader x i (l - length bs) (m - length bs) (a + min m (length bs))) (a + min m (length bs)) (k ++ take m bs)
  unfolding laid
  laid-stands bs =
      let long = h.long in
      let end : a + min m (length bs) ≡ a + length (take m bs) = omega (arith, length-take m bs) in
      stands-as
      (ap (λ (r : Reader). laid (state r s.area) bs) h.same
      ∙ ap (λ (n : ℕ). state (reader x i (l - length bs) (m - length bs) (a + min n (length bs))) (put s.area a (take n bs))) room)
      (record {
        same = refl;
        front = take_put s.area a (take m bs) _ end (omega arith) ∙ ap (λ (z : List ℕ). z ++ take m bs) h.front;
        long = length-put s.area a (take m bs) ∙ long;
      })

  -- a section that ends with the bytes
  pub section-fed : (bs : List ℕ) → 0 < l → length bs ≡ l → fed s bs ≡ next (laid s bs)
  section-fed bs g e = let left = ap (λ (r : Reader). r.left) h.same in ends s bs (omega arith) (e ∙ sym left)

-- ---- the number at the end of what stands

-- a number lowered leaves the area as long as it is
pub long-lowered : (area : List ℕ) (a most : ℕ) → length (lowered area a most) ≡ length area
unfolding lowered
long-lowered area a most =
    by (leb (number_to area a) most)
    (λ u. ap length (picks _ _ _ u))
    (λ u. ap length (skips _ _ _ u) ∙ length-put area (a - 8) (le8 most))

module _ (area : List ℕ) (a : ℕ) (k number : List ℕ) (front : take a area ≡ k ++ number) (eight : length number ≡ 8) (long : a ≤ length area) where
  place : a ≡ length k + 8
  place = omega (arith, length-take-le a area long, ap length front, length-append k number)

  pub number-stands : number_to area a ≡ value_of number
  unfolding number_to number_at part
  number-stands =
      let p = place in
      skips (ltb a 8) _ _ (le-ltb a 8 (omega arith))
      ∙ skips (ltb (length area) a) _ _ (le-ltb (length area) a long)
      ∙ sym (number-front area a (a - 8) (omega arith))
      ∙ ap value_of
      (ap (λ (z : List ℕ). part z (a - 8) 8) front ∙ ap (take 8) (drop_at k number (a - 8) (omega arith)) ∙ take_all 8 number (omega arith))

  module _ (most : ℕ) where
    -- as it is, or lowered
    pub front-lowered : Bytes number → take a (lowered area a most) ≡ k ++ le8 (min (value_of number) most)
    unfolding lowered
    front-lowered b =
        let p = place in
        let n = number-stands in
        let eights = length-bytes 8 most in
        let before : take (a - 8) area ≡ k =
        sym (take-take (a - 8) a area (omega arith)) ∙ ap (take (a - 8)) front ∙ take_at k number (a - 8) (omega arith) in
        by (leb (number_to area a) most)
        (λ u.
        let m : value_of number ≡ min (value_of number) most = omega (arith, leb-true (number_to area a) most u) in
        ap (take a) (picks _ _ _ u)
        ∙ front
        ∙ ap (λ (z : List ℕ). k ++ z) (sym (bytes-value number b) ∙ ap₂ bytes_of eight m))
        (λ u.
        let m : most ≡ min (value_of number) most = omega (arith, leb-false (number_to area a) most u) in
        ap (take a) (skips _ _ _ u)
        ∙ take_put area (a - 8) (le8 most) _ (omega arith) long
        ∙ ap₂ (λ (z : List ℕ) (j : ℕ). z ++ le8 j) before m)

-- ---- behind a section

stepped : {x : Section} {i l m a : ℕ} {s : State} {k : List ℕ} → Stands s (reader x i l m a) a k → next s ≡ next_to x (reader x i l m a) s.area
unfolding next
stepped {s = s} h = ap (λ (r : Reader). next (state r s.area)) h.same

pub behind-id : {i l m a : ℕ} {s : State} {k : List ℕ} → Stands s (reader Ids i l m a) a k → Stands (next s) (ids_from i m a) a k
unfolding next_to
behind-id h = stands-as (stepped h) (record { same = refl; front = h.front; long = h.long })

pub behind-head : {i l m a : ℕ} {s : State} {k : List ℕ} → Stands s (reader Head i l m a) a k → Stands (next s) (data_from a) a k
unfolding next_to
behind-head h = stands-as (stepped h) (record { same = refl; front = h.front; long = h.long })

-- of which the number at the end counts the next
module _ {i l m a : ℕ} {s : State} (k number : List ℕ) (eight : length number ≡ 8) (b : Bytes number) (fits : a ≤ 68810) where
  counted : (x : Section) (f : ℕ → Reader) (most : ℕ)
      → next_to x (reader x i l m a) s.area ≡ state (f (number_to s.area a)) (lowered s.area a most)
      → Stands s (reader x i l m a) a (k ++ number) → Stands (next s) (f (value_of number)) a (k ++ le8 (min (value_of number) most))
  counted x f most e h =
      let long = h.long in
      let near : a ≤ length s.area = omega arith in
      stands-as
      (stepped h ∙ e ∙ ap (λ (n : ℕ). state (f n) (lowered s.area a most)) (number-stands s.area a k number h.front eight near))
      (record {
        same = refl;
        front = front-lowered s.area a k number h.front eight near most b;
        long = long-lowered s.area a most ∙ long;
      })

  pub behind-front : Stands s (reader Front i l m a) a (k ++ number)
      → Stands (next s) (ids_from (value_of number) (min (value_of number) 9 * 32) a) a (k ++ le8 (min (value_of number) 9))
  unfolding next_to
  behind-front = counted Front (λ n. ids_from n (min n 9 * 32) a) 9 refl

  pub behind-length : Stands s (reader Length i l m a) a (k ++ number)
      → Stands (next s) (head_from (value_of number) a) a (k ++ le8 (min (value_of number) 2897))
  unfolding next_to
  behind-length = counted Length (λ n. head_from n a) 2897 refl

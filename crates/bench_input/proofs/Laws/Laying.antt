-- One byte fed, as the code does it: it is laid or only counted, its section ends or goes on. Assumes nothing.
use Rattle.lists.proofs.Kit.{◌≡◌, refl, sym, ap, ap₂, ◌∙◌, List, [], ◌∷◌, ℕ, suc, ◌+◌, ◌-◌, ◌*◌, ◌≤◌, ◌<◌, min, arith, length, take, drop, get_or, set}
use Rattle.lists.proofs.Kit.{drop_of_length-le, take_all, drop-cons, ltb, lt-ltb, le-ltb, le-leb, lt-leb, ltb-false}
use native.Mathlib.Numerals.{add-one}
use Rattle.lists.proofs.Laws.Pick.{yes, no, by, picks, skips}
use Rattle.area.specs.Area.{put}
use Rattle.area.specs.Little.{le8}
use Rattle.area.proofs.Laws.Puts.{put-nil, set-put}
use Rattle.bench_input.specs.Reader.{State, state, reader, next_to, next, laid, spare, onward, fed_byte, fed, number_to, lowered, ids_from}
use Rattle.bench_input.specs.Reader.{head_from, data_from}
use Rattle.bench_input.specs.declared.Section.{Section}
use Rattle.bench_input.specs.declared.Section.TheVariants.{Front, Ids, Length, Head, Data}
use Rattle.bench_input.specs.declared.Reader.{Reader}

pub same-state : {x : Section} {i l m a : ℕ} {l' m' a' : ℕ} {u v : List ℕ} → l ≡ l' → m ≡ m' → a ≡ a' → u ≡ v
    → state (reader x i l m a) u ≡ state (reader x i l' m' a') v
same-state {x} {i} p q r e = λ j. state (reader x i (p j) (q j) (r j)) (e j)

-- ---- the number ahead of a section

-- one above what is kept stands whole in the area
pub stands-whole : (all : List ℕ) (at : ℕ) {n most : ℕ} → n ≡ number_to all at → most < n → (8 ≤ at) × (at ≤ length all)
unfolding number_to
stands-whole all at e h =
    by (ltb at 8)
    (λ u. absurd (omega (arith, e ∙ picks _ _ _ u)))
    (λ u.
    by (ltb (length all) at)
    (λ v. absurd (omega (arith, e ∙ skips _ _ _ u ∙ picks _ _ _ v)))
    (λ v. (ltb-false at 8 u, ltb-false (length all) at v)))

-- left as it is, or lowered
module _ (all : List ℕ) (at most : ℕ) {n : ℕ} (e : n ≡ number_to all at) where
  pub lowers-not : n ≤ most → all ≡ lowered all at most
  unfolding lowered
  lowers-not h = yes _ _ _ (le-leb (number_to all at) most (omega arith)) refl

  pub lowers : {after : List ℕ} → most < n → after ≡ put all (at - 8) (le8 most) → after ≡ lowered all at most
  unfolding lowered
  lowers h f = no _ _ _ (lt-leb (number_to all at) most (omega arith)) f

-- ---- a byte

module _ (r : Reader) (all : List ℕ) (b : ℕ) where
  -- no room for it
  pub lays-none : {l m : ℕ} → l ≡ r.left - 1 → m ≡ r.room - 1 → min r.room (length all - r.at) ≡ 0
      → state (reader r.section r.ids l m r.at) all ≡ laid (state r all) (b ∷ [])
  unfolding laid spare
  lays-none p q e = same-state p q (omega arith) (sym (ap (λ (k : ℕ). put all r.at (take k (b ∷ []))) e ∙ put-nil all r.at))

  pub lays_one : {l m : ℕ} → l ≡ r.left - 1 → m ≡ r.room - 1 → 0 < r.room → r.at < length all
      → state (reader r.section r.ids l m (r.at + 1)) (set all r.at b) ≡ laid (state r all) (b ∷ [])
  unfolding laid spare
  lays_one p q g h =
      same-state p q (omega arith)
      (set-put all r.at b ∙ sym (ap (put all r.at) (take_all (min r.room (length all - r.at)) (b ∷ []) (omega arith))))

-- ---- its section

-- the one behind it
module _ (r : Reader) (all : List ℕ) where
  arm : (x : Section) {t : State} → r.section ≡ x → t ≡ next_to x r all → t ≡ next (state r all)
  unfolding next
  arm x e f = f ∙ sym (ap (λ (y : Section). next_to y r all) e)

  pub behind-front : {n m : ℕ} {q : Reader} {after : List ℕ} → r.section ≡ Front → n ≡ number_to all r.at → m ≡ min n 9
      → q ≡ ids_from n (m * 32) r.at → after ≡ lowered all r.at 9 → state q after ≡ next (state r all)
  unfolding next_to
  behind-front {n} e f g h k =
      let ids = h ∙ ap (λ (i : ℕ). ids_from n (i * 32) r.at) g ∙ ap (λ (i : ℕ). ids_from i (min i 9 * 32) r.at) f in
      arm Front e (λ j. state (ids j) (k j))

  pub behind-id : {q : Reader} → r.section ≡ Ids → q ≡ ids_from r.ids r.room r.at → state q all ≡ next (state r all)
  unfolding next_to
  behind-id e h = arm Ids e (λ j. state (h j) all)

  pub behind-length : {n : ℕ} {q : Reader} {after : List ℕ} → r.section ≡ Length → n ≡ number_to all r.at
      → q ≡ head_from n r.at → after ≡ lowered all r.at 2897 → state q after ≡ next (state r all)
  unfolding next_to
  behind-length e f h k =
      let head = h ∙ ap (λ (i : ℕ). head_from i r.at) f in
      arm Length e (λ j. state (head j) (k j))

  pub behind-head : {q : Reader} → r.section ≡ Head → q ≡ data_from r.at → state q all ≡ next (state r all)
  unfolding next_to
  behind-head e h = arm Head e (λ j. state (h j) all)

  pub in-data : r.section ≡ Data → state r all ≡ next (state r all)
  unfolding next_to
  in-data e = arm Data e refl

module _ (s : State) (b : ℕ) where
  pub goes_on : {one : State} → one ≡ laid s (b ∷ []) → 0 < one.reader.left → one ≡ fed_byte s b
  unfolding fed_byte onward
  goes_on e h = yes _ _ _ (lt-ltb 0 _ h) refl ∙ ap onward e

  pub has_ended : {one t : State} → one ≡ laid s (b ∷ []) → one.reader.left ≤ 0 → t ≡ next one → t ≡ fed_byte s b
  unfolding fed_byte onward
  has_ended e h f = no _ _ _ (le-ltb 0 _ h) f ∙ ap onward e

-- ---- byte after byte

pub further : (bytes : List ℕ) (i : ℕ) (s : State) {t : State} → i < length bytes → t ≡ fed_byte s (get_or bytes i 0)
    → fed s (drop i bytes) ≡ fed t (drop (i + 1) bytes)
unfolding fed
further bytes i s {t} h e =
    let first : fed s (drop i bytes) ≡ fed (fed_byte s (get_or bytes i 0)) (drop (suc i) bytes) = ap (fed s) (drop-cons bytes i 0 h) in
    first ∙ ap₂ (λ (x : State) (k : ℕ). fed x (drop k bytes)) (sym e) (sym (add-one i))

pub all-fed : (bytes : List ℕ) (i : ℕ) (s : State) → length bytes ≤ i → s ≡ fed s (drop i bytes)
unfolding fed
all-fed bytes i s h = sym (ap (fed s) (drop_of_length-le bytes h))

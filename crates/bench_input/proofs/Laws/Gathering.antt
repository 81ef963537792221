-- Pieces that came one after the other, and the place that never passes the area. Assumes nothing.
use Rattle.lists.proofs.Kit.{◌≡◌, refl, sym, ap, ◌∙◌, List, [], ◌∷◌, ◌++◌, append-nil, ℕ, ◌*◌, ◌≤◌, min, arith, length, take, eqb}
use Rattle.lists.proofs.Laws.Pick.{by, picks, skips}
use Rattle.lists.proofs.Laws.Ways.{either_way}
use Rattle.area.specs.Little.{Bytes}
use Rattle.area.proofs.Laws.Puts.{length-put}
use Rattle.area.proofs.Laws.Little.{append-below}
use Rattle.sia.specs.Encode.{joined}
use Rattle.sia.proofs.Laws.Joined.{joined-append}
use Rattle.bench_input.specs.Reader.{State, state, fresh, ids_from, data_from, head_from, number_to, next_to, next, spare, laid, onward}
use Rattle.bench_input.specs.Reader.{fed_byte, fed, fed_all, read_all, whole, held, holds}
use Rattle.bench_input.specs.Kept.{missing, keep}
use Rattle.bench_input.specs.Gathered.{Feeds, Gathered}
use Rattle.bench_input.specs.declared.Section.{Section}
use Rattle.bench_input.specs.declared.Section.TheVariants.{Front, Ids, Length, Head, Data}
use Rattle.bench_input.specs.declared.Reader.{Reader}
use Rattle.bench_input.proofs.Laws.Feeding.{fed-whole}
use Rattle.bench_input.proofs.Laws.Standing.{long-lowered}
use Rattle.bench_input.proofs.Laws.Reading.{holds-keep}

-- ---- a piece behind others

-- pieces came, and lead from a new reader on an area to a state
pub record Came (before : List ℕ) (s : State) : Type 0 where
  pub pieces : List (List ℕ)
  pub bytes : Bytes (whole pieces)
  pub leads : s ≡ read_all before pieces

no_bytes : Bytes []
unfolding Bytes
no_bytes i = omega arith

pub feeds-none : (s : State) → Feeds s s
unfolding fed
feeds-none s = record { piece = []; bytes = no_bytes; leads = refl }

pub came-none : {r : Reader} (before : List ℕ) → r ≡ fresh → Came before (state r before)
unfolding read_all fed_all joined
came-none before e = record { pieces = []; bytes = no_bytes; leads = ap (λ (r : Reader). state r before) e }

fed-last : (s : State) (ps : List (List ℕ)) (p : List ℕ) → fed_all s (ps ++ (p ∷ [])) ≡ fed (fed_all s ps) p
unfolding fed_all
fed-last s [] p = refl
fed-last s (q ∷ ps) p = fed-last (fed s q) ps p

whole-last : (ps : List (List ℕ)) (p : List ℕ) → whole (ps ++ (p ∷ [])) ≡ whole ps ++ p
unfolding joined
whole-last ps p = joined-append (λ q. q) ps (p ∷ []) ∙ ap (λ (l : List ℕ). whole ps ++ l) (append-nil p)

pub came-more : {before : List ℕ} {s t : State} → Came before s → Feeds s t → Came before t
unfolding read_all
came-more {before} c f = record {
  pieces = c.pieces ++ (f.piece ∷ []);
  bytes = rw (whole-last c.pieces f.piece) (append-below (whole c.pieces) f.piece c.bytes f.bytes);
  leads = f.leads ∙ ap (λ (x : State). fed x f.piece) c.leads ∙ sym (fed-last (state fresh before) c.pieces f.piece);
}

-- ---- the place stays within the area

abbrev Within : State → Type 0
Within s = s.reader.at ≤ length s.area

ids_at : (n m a : ℕ) → (ids_from n m a).at ≡ a
unfolding ids_from
ids_at n m a = by (eqb n 0) (λ u. ap (λ (r : Reader). r.at) (picks _ _ _ u)) (λ u. ap (λ (r : Reader). r.at) (skips _ _ _ u))

head_at : (n a : ℕ) → (head_from n a).at ≡ a
unfolding head_from data_from
head_at n a = by (eqb n 0) (λ u. ap (λ (r : Reader). r.at) (picks _ _ _ u)) (λ u. ap (λ (r : Reader). r.at) (skips _ _ _ u))

next-within : (x : Section) (r : Reader) (all : List ℕ) → r.at ≤ length all → Within (next_to x r all)
unfolding next_to data_from
next-within Front r all h = omega (arith, ids_at (number_to all r.at) (min (number_to all r.at) 9 * 32) r.at, long-lowered all r.at 9)
next-within Ids r all h = omega (arith, ids_at r.ids r.room r.at)
next-within Length r all h = omega (arith, head_at (number_to all r.at) r.at, long-lowered all r.at 2897)
next-within Head r all h = h
next-within Data r all h = h

laid-within : (s : State) (bs : List ℕ) → Within s → Within (laid s bs)
unfolding laid spare
laid-within s bs h = omega (arith, length-put s.area s.reader.at (take (spare s) bs))

byte-within : (s : State) (b : ℕ) → Within s → Within (fed_byte s b)
unfolding fed_byte onward next
byte-within s b h =
    let one = laid s (b ∷ []) in
    let here = laid-within s (b ∷ []) h in
    either_way (λ (t : State). Within t) _ _ _ (λ _. here) (λ _. next-within one.reader.section one.reader one.area here)

fed-within : (s : State) (bs : List ℕ) → Within s → Within (fed s bs)
unfolding fed
fed-within s [] h = h
fed-within s (b ∷ bs) h = fed-within (fed_byte s b) bs (byte-within s b h)

all-within : (s : State) (ps : List (List ℕ)) → Within s → Within (fed_all s ps)
unfolding fed_all
all-within s [] h = h
all-within s (p ∷ ps) h = all-within (fed s p) ps (fed-within s p h)

held-most : (r : Reader) → held r ≤ r.at
unfolding held
held-most r = either_way (λ (n : ℕ). n ≤ r.at) _ _ _ (λ _. omega arith) (λ _. omega arith)

-- what a reader holds that was fed what came
pub gathered : {before after : List ℕ} {r : Reader} {n : ℕ} → length before ≡ 68810 → Came before (state r after) → n ≡ held r → Gathered after n
unfolding read_all fresh holds
gathered {before} {after} {r} {n} long c e =
    let stays : Within (read_all before c.pieces) = all-within (state fresh before) c.pieces (omega arith) in
    let at = ap (λ (x : State). x.reader.at) c.leads in
    let length-same = ap (λ (x : State). length x.area) c.leads in
    record {
      came = whole c.pieces;
      keeps =
          ap (λ (k : ℕ). take k after) e
          ∙ ap holds (c.leads ∙ fed-whole (state fresh before) c.pieces)
          ∙ holds-keep before (whole c.pieces) long c.bytes;
      within = omega (arith, held-most r);
    }

pub gathered_none : (area : List ℕ) → Gathered area 0
unfolding keep missing
gathered_none area = record { came = []; keeps = sym (picks _ _ _ (picks _ _ _ refl)); within = omega arith }

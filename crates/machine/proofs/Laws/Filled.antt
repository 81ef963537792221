-- Slots in an array with zeros behind them: kept ones, new ones behind those, and the final slots. z is the sector size. Assumes nothing.
use Rattle.lists.proofs.Kit.{◌≡◌, refl, sym, ap, ◌∙◌, Bool, true, false, List, [], ◌∷◌, ◌++◌, append_assoc, ℕ, zero, suc, ◌+◌, ◌-◌, ◌/◌, ◌≤◌, min, arith, length}
use Rattle.lists.proofs.Kit.{◌*◌, get_or, eqb, take, drop, length-take, length-drop, length-append, append-nil, drop_of_length-le}
use borrow.Rule.Slice.PartMut.{put_mid}
use Rattle.lists.specs.Pick.{pick}
use Rattle.lists.proofs.Laws.Pick.{by, picks, skips}
use Rattle.area.specs.Area.{part, put, zeros}
use Rattle.area.proofs.Laws.Puts.{cons}
use Rattle.host.specs.Empty.{none}
use Rattle.host.specs.With.{with_size, with_slots}
use Rattle.host.specs.Places.{committed, taken}
use Rattle.host.specs.Calls.{replaced}
use Rattle.machine_rules.specs.Commit.{cut, new_slots, final_slots, copied_back, final_place}
use Rattle.host.specs.declared.Place.{Place}
use Rattle.machine.specs.Marks.{marks_of, new_from, filled}
use Rattle.machine.proofs.Laws.Marks.{marks-told, new_told, length-new}

-- ---- laid over zeros

put-zeros : (n : ℕ) (l : List ℕ) → length l ≤ n → put (zeros n) 0 l ≡ l ++ zeros (n - length l)
unfolding put
put-zeros zero [] h = refl
put-zeros zero (x ∷ l) h = absurd (omega arith)
put-zeros (suc n) [] h = ap zeros (let e : suc n ≡ suc n - 0 = omega arith in e)
put-zeros (suc n) (x ∷ l) h =
    let e : n - length l ≡ suc n - suc (length l) = omega arith in cons x (put-zeros n l (omega arith) ∙ ap (λ (k : ℕ). l ++ zeros k) e)

put-behind : (l new : List ℕ) (k : ℕ) → length new ≤ k → put (l ++ zeros k) (length l) new ≡ l ++ (new ++ zeros (k - length new))
unfolding put
put-behind [] new k h = put-zeros k new h
put-behind (x ∷ l) new k h = cons x (put-behind l new k h)

-- the first slots of an array of zeros
pub filled-first : (l : List ℕ) → length l ≤ 64 → put (zeros 64) 0 l ≡ filled l
unfolding filled
filled-first l h = put-zeros 64 l h

-- zeros written over what lies behind the first n
pub filled-behind : {zs : List ℕ} (slots : List ℕ) (n : ℕ) → length slots ≡ 64 → n ≤ 64 → zs ≡ zeros (length (take (64 - n) (drop n slots)))
    → put_mid n (64 - n) slots zs ≡ filled (take n slots)
unfolding filled
filled-behind slots n l h e =
    let k : length (take (64 - n) (drop n slots)) ≡ 64 - length (take n slots) =
    omega (arith, l, length-take (64 - n) (drop n slots), length-drop n slots, length-take n slots) in
    let rest : drop (64 - n) (drop n slots) ≡ [] = drop_of_length-le (drop n slots) {i = 64 - n} (omega (arith, l, length-drop n slots)) in
    ap (put_mid n (64 - n) slots) (e ∙ ap (λ (m : ℕ). zeros m) k)
    ∙ ap (λ (r : List ℕ). take n slots ++ (zeros (64 - length (take n slots)) ++ r)) rest
    ∙ ap (λ (r : List ℕ). take n slots ++ r) (append-nil (zeros (64 - length (take n slots))))

-- more slots behind them
pub filled_more : (l new : List ℕ) → length l + length new ≤ 64 → put (filled l) (length l) new ≡ filled (l ++ new)
unfolding filled
filled_more l new h =
    let e : 64 - length l - length new ≡ 64 - length (l ++ new) = omega (arith, length-append l new) in
    put-behind l new (64 - length l) (omega arith)
    ∙ sym (append_assoc l new (zeros (64 - length l - length new)))
    ∙ ap (λ (k : ℕ). (l ++ new) ++ zeros k) e

-- ---- the slots of a place

pub count-free : (z : ℕ) (p : Place) → p.held ≡ false → length (committed z p) ≡ 0
unfolding committed
count-free z p e = ap length (skips p.held (take (p.size / z) p.slots) [] e)

pub count_held : (z : ℕ) (p : Place) → p.held ≡ true → length p.slots ≡ 64 → length (committed z p) ≡ min (p.size / z) 64
unfolding committed
count_held z p e l =
    ap length (picks p.held (take (p.size / z) p.slots) [] e) ∙ length-take (p.size / z) p.slots ∙ ap (min (p.size / z)) l

as_many : (k : ℕ) (l : List ℕ) → take (length (take k l)) l ≡ take k l
as_many zero l = refl
as_many (suc k) [] = refl
as_many (suc k) (x ∷ xs) = cons x (as_many k xs)

-- as many of its entries as it has slots are its slots
first-committed : (z : ℕ) (p : Place) → take (length (committed z p)) p.slots ≡ committed z p
unfolding committed
first-committed z p =
    by p.held
    (λ e. let q = picks p.held (take (p.size / z) p.slots) [] e in
    ap (λ (l : List ℕ). take (length l) p.slots) q ∙ as_many (p.size / z) p.slots ∙ sym q)
    (λ e. let q = skips p.held (take (p.size / z) p.slots) [] e in ap (λ (l : List ℕ). take (length l) p.slots) q ∙ sym q)

-- ---- the final slots

-- kept slots in front, new ones behind them
joined-slots : {flags : List Bool} (used keep : List ℕ) (disk n : ℕ) → disk ≤ 64 → n ≤ 64 → length keep ≤ 64 → flags ≡ marks_of used
    → put (filled keep) (length keep) (new_from disk flags (n - length keep)) ≡ filled (keep ++ new_slots disk used (n - length keep))
joined-slots {flags} used keep disk n few most long e =
    filled_more keep (new_from disk flags (n - length keep)) (omega (arith, length-new disk flags (n - length keep)))
    ∙ ap (λ (l : List ℕ). filled (keep ++ l))
    (ap (λ (l : List Bool). new_from disk l (n - length keep)) e ∙ new_told disk (marks_of used) used (n - length keep) few (marks-told used))

-- as the code makes them, from the place with its positions past the size freed
pub final-made : {r keep used : List ℕ} {flags : List Bool} {kept : Place} {n : ℕ} (z disk : ℕ) (ps : List Place) (p : Place) (size : ℕ)
    → disk ≤ 64 → size / z ≤ 64
    → kept ≡ cut size p → n ≡ length (committed z kept) → n ≤ 64 → flags ≡ marks_of used → used ≡ taken z (replaced p.id kept ps)
    → keep ≡ filled (take n kept.slots) → r ≡ put keep n (new_from disk flags (size / z - n)) → r ≡ filled (final_slots z disk ps p size)
unfolding final_slots
final-made {r} {keep} {used} {flags} {kept} {n} z disk ps p size few most k c long f u h w =
    let own : keep ≡ filled (committed z kept) = h ∙ ap (λ (m : ℕ). filled (take m kept.slots)) c ∙ ap filled (first-committed z kept) in
    w
    ∙ ap (λ (m : ℕ). put keep m (new_from disk flags (size / z - m))) c
    ∙ ap (λ (l : List ℕ). put l (length (committed z kept)) (new_from disk flags (size / z - length (committed z kept)))) own
    ∙ joined-slots (taken z (replaced p.id kept ps)) (committed z kept) disk (size / z) few most (omega (arith, c)) (f ∙ ap marks_of u)
    ∙ ap (λ (q : Place). filled (committed z q ++ new_slots disk (taken z (replaced p.id q ps)) (size / z - length (committed z q)))) k

-- ---- zeros behind slots are read as nothing is

get_or-zeros : (k i : ℕ) → get_or (zeros k) i 0 ≡ 0
get_or-zeros zero i = refl
get_or-zeros (suc k) zero = refl
get_or-zeros (suc k) (suc i) = get_or-zeros k i

get_or-behind : (l : List ℕ) (k i : ℕ) → get_or (l ++ zeros k) i 0 ≡ get_or l i 0
get_or-behind [] k i = get_or-zeros k i
get_or-behind (x ∷ l) k zero = refl
get_or-behind (x ∷ l) k (suc i) = get_or-behind l k i

pub slot-filled : (l : List ℕ) (i : ℕ) → get_or (filled l) i 0 ≡ get_or l i 0
unfolding filled
slot-filled l i = get_or-behind l (64 - length l) i

-- `copy_back` copies to the final slots
pub back-filled : (z : ℕ) (stage staged l : List ℕ) (i n : ℕ) (disk : List ℕ)
    → copied_back z stage staged (filled l) i n disk ≡ copied_back z stage staged l i n disk
unfolding copied_back
back-filled z stage staged l i zero disk = refl
back-filled z stage staged l i (suc n) disk =
    back-filled z stage staged l (suc i) n _
    ∙ ap (λ (m : ℕ). copied_back z stage staged l (suc i) n
    (pick (eqb (get_or staged i none) none) disk (put disk (m * z) (part stage (get_or staged i none * z) z)))) (slot-filled l i)

-- `final_place` makes the final place
pub place-filled : (p : Place) (size : ℕ) (l : List ℕ) → with_slots (with_size p size) (filled l) ≡ final_place p size l
unfolding final_place filled
place-filled p size l = refl

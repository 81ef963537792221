-- One turn of the loops over slots: a mark for one more slot that is listed, and one more new slot. Assumes nothing.
use Rattle.std.proofs.Math.Numerals.{add-one}
use Rattle.lists.proofs.Kit.{◌≡◌, sym, ap, ◌∙◌, Bool, true, List, [], ◌∷◌, ℕ, suc, ◌+◌, ◌-◌, ◌≤◌, ◌<◌, arith, length, get_or, set, drop, drop-cons, drop_of_length-le}
use Rattle.lists.specs.Lowest.{lowest}
use Rattle.area.specs.Area.{put}
use Rattle.area.proofs.Laws.Puts.{set-put, put-append, put-nil}
use Rattle.machine.specs.Marks.{unmarked, new_from}
use Rattle.machine.proofs.Laws.Marks.{marks}

-- ---- marks

pub mark-one : {next : List Bool} (taken : List Bool) (items : List ℕ) (i : ℕ) → i < length items → next ≡ set taken (get_or items i 0) true
    → marks taken (drop i items) ≡ marks next (drop (i + 1) items)
unfolding marks
mark-one {next} taken items i h e = rw (add-one, drop-cons items i 0) (ap (λ (f : List Bool). marks f (drop (suc i) items)) (sym e))

pub mark-done : (taken : List Bool) (items : List ℕ) (i : ℕ) → length items ≤ i → marks taken (drop i items) ≡ taken
unfolding marks
mark-done taken items i h = ap (marks taken) (drop_of_length-le items {i = i} h)

-- ---- new slots

pub new-one : {x : ℕ} {next : List Bool} (disk : ℕ) (used : List Bool) (after : List ℕ) (i end : ℕ)
    → i < end → x ≡ lowest (unmarked used) 0 disk → next ≡ set used x true
    → put after i (new_from disk used (end - i)) ≡ put (set after i x) (i + 1) (new_from disk next (end - (i + 1)))
unfolding new_from
new-one {x} {next} disk used after i end h e q =
    let k : end - i ≡ suc (end - (i + 1)) = omega arith in
    ap (λ (n : ℕ). put after i (new_from disk used n)) k
    ∙ ap (λ (y : ℕ). put after i (y ∷ new_from disk (set used y true) (end - (i + 1)))) (sym e)
    ∙ ap (λ (l : List Bool). put after i (x ∷ new_from disk l (end - (i + 1)))) (sym q)
    ∙ sym (put-append after i (x ∷ []) (new_from disk next (end - (i + 1))) (i + 1) (omega arith))
    ∙ ap (λ (l : List ℕ). put l (i + 1) (new_from disk next (end - (i + 1)))) (sym (set-put after i x))

pub new-done : (disk : ℕ) (used : List Bool) (after : List ℕ) (i end : ℕ) → end ≤ i → put after i (new_from disk used (end - i)) ≡ after
unfolding new_from
new-done disk used after i end h =
    let k : end - i ≡ 0 = omega arith in
    ap (λ (n : ℕ). put after i (new_from disk used n)) k ∙ put-nil after i

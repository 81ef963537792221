-- Marks of slots say what a list of used slots says: the lowest slot without a mark is the lowest that is not used. Assumes nothing.
use Rattle.lists.proofs.Kit.{◌≡◌, refl, sym, ap, ◌∙◌, Bool, true, false, not, List, [], ◌∷◌, ◌++◌, append-nil, ℕ, zero, suc, ◌+◌, ◌≤◌, ◌<◌, arith, length}
use Rattle.lists.proofs.Kit.{cond, ltb, ltb-false, take, length-take-le, get_or-take, get_or, set, length-set, replicate, length-replicate, get_or-replicate, get_or-set_same, get_or-set_other, ext_get_or, eqb, eqb-true, eqb-false}
use Rattle.lists.specs.Pick.{pick}
use Rattle.lists.specs.Tests.{some, unused, first_of}
use Rattle.lists.specs.Lowest.{lowest}
use Rattle.lists.proofs.Laws.Pick.{by, picks, skips}
use Rattle.lists.proofs.Laws.Tab.{length-tab, get_or-tab}
use Rattle.lists.proofs.Laws.Some.{some-moved}
use Rattle.lists.proofs.Laws.Lowest.{lowest-alike}
use Rattle.lists.proofs.Laws.Library.{first-position}
use Rattle.std.specs.List.{position, position_or_len}
use Rattle.std.specs.Option.{unwrap_or}
use Rattle.std.proofs.Common.{Option, Some, None}
use Rattle.std.proofs.lemmas.List.Sums.{prefix_len-le-length}
use Rattle.machine_rules.specs.Commit.{new_slots}
use Rattle.machine.specs.Marks.{flag, marks_of, unmarked, new_from}

-- an entry for each of 64 slots, true where the slot is used
pub record Tells (flags : List Bool) (used : List ℕ) : Type 0 where
  pub long : length flags ≡ 64
  pub same : (j : ℕ) → j < 64 → get_or flags j false ≡ flag used j

-- the marks of a list
pub marks-told : (l : List ℕ) → Tells (marks_of l) l
unfolding marks_of
marks-told l = record {
  long = length-tab 0 64 (flag l);
  same = λ j h. get_or-tab 0 64 (flag l) j false h ∙ ap (flag l) (let e : 0 + j ≡ j = omega arith in e);
}

-- and nothing else is so told
pub told-marks : (flags : List Bool) (l : List ℕ) → Tells flags l → flags ≡ marks_of l
told-marks flags l t =
    let m = marks-told l in
    ext_get_or false flags (marks_of l) (t.long ∙ sym m.long) (λ j h. t.same j (omega (arith, t.long)) ∙ sym (m.same j (omega (arith, t.long))))

-- ---- one more is used

pub tells_none : Tells (replicate 64 false) []
unfolding flag some
tells_none = record {
  long = length-replicate {A = Bool} 64 false;
  same = λ j h. get_or-replicate {A = Bool} 64 j false false h;
}

pub tells_more : (flags : List Bool) (used : List ℕ) (x : ℕ) → Tells flags used → Tells (set flags x true) (x ∷ used)
unfolding flag some
tells_more flags used x t = record {
  long = length-set flags x true ∙ t.long;
  same = λ j h. by (eqb j x)
      (λ e. let q : j ≡ x = eqb-true j x e in
      ap (λ (k : ℕ). get_or (set flags x true) k false) q ∙ get_or-set_same flags x true false (omega (arith, t.long))
      ∙ sym (picks (eqb j x) true (some (eqb j) used) e))
      (λ e. get_or-set_other flags x j true false (eqb-false j x e) ∙ t.same j h ∙ sym (skips (eqb j x) true (some (eqb j) used) e));
}

-- whichever of the used is told first
tells-swap : (flags : List Bool) (a b : List ℕ) → ((j : ℕ) → some (eqb j) a ≡ some (eqb j) b) → Tells flags a → Tells flags b
unfolding flag
tells-swap flags a b e t = record { long = t.long; same = λ j h. t.same j h ∙ e j }

-- ---- marks that are laid one after another

unfoldable pub marks : List Bool → List ℕ → List Bool
marks flags [] = flags
marks flags (x ∷ xs) = marks (set flags x true) xs

marks-more : (flags : List Bool) (used l : List ℕ) → Tells flags used → Tells (marks flags l) (l ++ used)
unfolding marks
marks-more flags used [] t = t
marks-more flags used (x ∷ l) t =
    tells-swap (marks (set flags x true) l) (l ++ (x ∷ used)) (x ∷ (l ++ used)) (some-moved x l used)
    (marks-more (set flags x true) (x ∷ used) l (tells_more flags used x t))

-- over an array with no mark
pub marks-are : (l : List ℕ) → marks (replicate 64 false) l ≡ marks_of l
marks-are l =
    told-marks (marks (replicate 64 false) l) l
    (tells-swap (marks (replicate 64 false) l) (l ++ []) l (λ j. ap (some (eqb j)) (append-nil l)) (marks-more (replicate 64 false) [] l tells_none))

-- ---- the lowest free slot

lowest-told : (disk : ℕ) (flags : List Bool) (used : List ℕ) → disk ≤ 64 → Tells flags used → lowest (unmarked flags) 0 disk ≡ lowest (unused used) 0 disk
unfolding flag
lowest-told disk flags used few t =
    lowest-alike (unmarked flags) (unused used) 0 disk (λ j lo hi. ap not (t.same j (omega arith)))

-- ---- new slots

pub new_told : (disk : ℕ) (flags : List Bool) (used : List ℕ) (n : ℕ) → disk ≤ 64 → Tells flags used → new_from disk flags n ≡ new_slots disk used n
unfolding new_from new_slots
new_told disk flags used zero few t = refl
new_told disk flags used (suc n) few t =
    let y : ℕ = lowest (unused used) 0 disk in
    ap (λ (x : ℕ). x ∷ new_from disk (set flags x true) n) (lowest-told disk flags used few t)
    ∙ ap (λ (l : List ℕ). y ∷ l) (new_told disk (set flags y true) (y ∷ used) n few (tells_more flags used y t))

pub length-new : (disk : ℕ) (flags : List Bool) (n : ℕ) → length (new_from disk flags n) ≡ n
unfolding new_from
length-new disk flags zero = refl
length-new disk flags (suc n) = ap suc (length-new disk (set flags (lowest (unmarked flags) 0 disk) true) n)

-- ---- the lowest slot with no mark, by its position among the marks

suc-pick : (b : Bool) (m n : ℕ) → pick b (suc m) (suc n) ≡ suc (pick b m n)
unfolding pick
suc-pick true m n = refl
suc-pick false m n = refl

next-lowest : (p : ℕ → Bool) (i n : ℕ) → lowest p (suc i) n ≡ suc (lowest (λ (m : ℕ). p (suc m)) i n)
unfolding lowest
next-lowest p i zero = refl
next-lowest p i (suc n) =
    ap (pick (p (suc i)) (suc i)) (next-lowest p (suc i) n) ∙ suc-pick (p (suc i)) i (lowest (λ (m : ℕ). p (suc m)) (suc i) n)

lowest-first : (l : List Bool) → lowest (unmarked l) 0 (length l) ≡ first_of not l
unfolding lowest first_of
lowest-first [] = refl
lowest-first (x ∷ l) = ap (pick (not x) 0) (next-lowest (unmarked (x ∷ l)) 0 (length l) ∙ ap suc (lowest-first l))

-- what the code finds, or the number of sectors where it finds none
pub found-lowest : {o : Option ℕ} {x : ℕ} (taken : List Bool) (disk : ℕ) → disk ≤ length taken → o ≡ position not (take disk taken) → x ≡ unwrap_or o disk
    → (x ≡ lowest (unmarked taken) 0 disk) × (x ≤ disk)
found-lowest {o} {x} taken disk h e q =
    let l : List Bool = take disk taken in
    let n : length l ≡ disk = length-take-le disk taken h in
    let at : ℕ = position_or_len not l in
    let most : at ≤ disk = omega (arith, prefix_len-le-length (λ (b : Bool). not (not b)) l) in
    let same : x ≡ at = q ∙ ap (λ (r : Option ℕ). unwrap_or r disk) e ∙ either-way at disk n most in
    let low : lowest (unmarked taken) 0 disk ≡ at =
    lowest-alike (unmarked taken) (unmarked l) 0 disk (λ j lo hi. ap not (sym (get_or-take disk taken j false (omega arith))))
    ∙ ap (lowest (unmarked l) 0) (sym n) ∙ lowest-first l ∙ first-position not l in
    (same ∙ sym low, omega arith) where
      either-way : (at disk : ℕ) {n : ℕ} → n ≡ disk → at ≤ disk → unwrap_or (cond (ltb at n) (Some at) None) disk ≡ at
      either-way at disk {n} e h =
          by (ltb at n)
          (λ t. rw t)
          (λ f. let k : disk ≡ at = omega (arith, ltb-false at n f) in rw f k)

-- What stage slots hold copied back, position by position. Slots have z bytes. Assumes nothing.
use Rattle.lists.proofs.Kit.{◌≡◌, sym, ap, ◌∙◌, true, false, List, ℕ, suc, ◌+◌, ◌-◌, ◌*◌, ◌≤◌, ◌<◌, arith, length, take, get_or, get_or-take, eqb}
use Rattle.std.proofs.Math.Numerals.{add-one}
use Rattle.lists.proofs.Laws.Pick.{picks, skips}
use Rattle.area.specs.Area.{part, put}
use Rattle.host.specs.Empty.{none}
use Rattle.machine_rules.specs.Commit.{copied_back}
use Rattle.machine.specs.Back.{laid, Lies, Back}

-- ---- one position

pub laid_none : (z : ℕ) (stage : List ℕ) (from to : ℕ) (disk : List ℕ) → eqb from none ≡ true → laid z stage from to disk ≡ disk
unfolding laid
laid_none z stage from to disk e = picks (eqb from none) disk _ e

pub laid-some : {after : List ℕ} (z : ℕ) (stage : List ℕ) (from to : ℕ) (disk : List ℕ) → eqb from none ≡ false
    → after ≡ put disk (to * z) (part stage (from * z) z) → after ≡ laid z stage from to disk
unfolding laid
laid-some z stage from to disk e p = p ∙ sym (skips (eqb from none) disk _ e)

-- ---- all of them

-- those of the next position, as a pair of the first n tells them
module _ (z : ℕ) (stage staged slots : List ℕ) (n i : ℕ) {from to : ℕ} (lt : i < n) (f : from ≡ get_or (take n staged) i none)
    (t : to ≡ get_or (take n slots) i 0) where
  source : from ≡ get_or staged i none
  source = f ∙ get_or-take n staged i none lt

  target : to ≡ get_or slots i 0
  target = t ∙ get_or-take n slots i 0 lt

  -- they lie within the areas, which stay as long as they were
  pub next-lies : (old disk : List ℕ) → Back z stage staged slots n old → length disk ≡ length old → Lies z stage from to disk
  next-lies old disk b l =
      rw (source, target) (record { source = (b.each i lt).source; target = λ e. omega (arith, (b.each i lt).target e, l) })

  pub back_one : {after : List ℕ} (disk : List ℕ) → after ≡ laid z stage from to disk
      → copied_back z stage staged slots i (n - i) disk ≡ copied_back z stage staged slots (i + 1) (n - (i + 1)) after
  unfolding copied_back laid
  back_one {after} disk e =
      let k : n - i ≡ suc (n - (i + 1)) = omega arith in
      let h : after ≡ laid z stage (get_or staged i none) (get_or slots i 0) disk =
      e ∙ ap (λ (m : ℕ). laid z stage m to disk) source ∙ ap (λ (m : ℕ). laid z stage (get_or staged i none) m disk) target in
      ap (λ (m : ℕ). copied_back z stage staged slots i m disk) k
      ∙ ap (copied_back z stage staged slots (suc i) (n - (i + 1))) (sym h)
      ∙ ap (λ (j : ℕ). copied_back z stage staged slots j (n - (i + 1)) after) (sym (add-one i))

pub back_done : (z : ℕ) (stage staged slots : List ℕ) (n i : ℕ) (disk : List ℕ) → n ≤ i → copied_back z stage staged slots i (n - i) disk ≡ disk
unfolding copied_back
back_done z stage staged slots n i disk h =
    let k : n - i ≡ 0 = omega arith in ap (λ (m : ℕ). copied_back z stage staged slots i m disk) k

-- Failures and the tally: what one instruction does by its number, and a run by induction on its turns. Assumes nothing.
use Rattle.lists.proofs.Kit.{◌≡◌, refl, sym, ap, ◌∙◌, subst, true, List, ℕ, zero, suc, ◌+◌, ◌*◌, ◌≤◌, add_assoc, arith, length, get_or, eqb}
use Rattle.lists.proofs.Kit.{eqb-true, eqb-false}
use Rattle.lists.specs.Pick.{pick}
use Rattle.lists.specs.Tests.{some}
use Rattle.lists.proofs.Laws.Pick.{by, picks, skips}
use Rattle.lists.proofs.Laws.Ways.{either_way}
use Rattle.area.specs.Area.{part, put}
use Rattle.tree.specs.Tree.{root}
use Rattle.sia.specs.Names.{op_of}
use Rattle.host.specs.Empty.{none}
use Rattle.host.specs.With.{with_written, with_failed}
use Rattle.machine_rules.specs.View.{Turn, Volume}
use Rattle.machine_rules.specs.declared.Setting.{Setting}
use Rattle.machine_rules.specs.Inputs.{args_of, inputs_of}
use Rattle.machine_rules.specs.Plan.{cost, touched, refused, fitted, weighed, planned_inputs, planned_args, planned, judged}
use Rattle.machine_rules.specs.Run.{failed_progress, failing, ran_progress, succeeding, stepped, current, step, ready, runs, run, Stepped, turned}
use Rattle.machine_rules.specs.Class.{is_known, class_of}
use Rattle.machine_rules.specs.Trace.{charges}
use Rattle.machine_rules.specs.Outcome.{Failed, Instructed}
use Rattle.machine_rules.proofs.Laws.Passed.{number, can, stepped-ran, stepped-failed, stepped-either}
use Rattle.machine_rules.proofs.Laws.Steps.{runs-go, runs-stop}
use Rattle.machine_rules.proofs.Laws.Trails.{failed-stops}
use Rattle.machine_rules.proofs.Laws.Classes.{is-invalid, is-host}
use Rattle.machine_rules.proofs.Laws.Rehashed.{rehashed-in, rehashed-out}
use Rattle.sia.specs.declared.Instruction.{Instruction}
use Rattle.host.specs.declared.Progress.{Progress}
use Rattle.machine_rules.specs.declared.Spot.{Spot}
use Rattle.machine_rules.specs.Roots.{root_at}
use Rattle.machine_rules.specs.Plan.{Plan}

fails : (s : Setting) (vol : Volume) (n : ℕ) (t : Turn) → Failed s vol n t (failing s vol n t)
unfolding failing failed_progress with_written with_failed
fails s vol n t = record { progress = refl; stage = refl; roots = refl; bytes = refl }

writes : (s : Setting) (vol : Volume) (i : Instruction) (l : List (List ℕ)) (t : Turn) → (judged s (root_at s vol t) t.progress i l ≡ 0 → ⊥)
    → Failed s vol (judged s (root_at s vol t) t.progress i l) t (stepped s vol i l t)
writes s vol i l t n =
    subst (Failed s vol (number s vol i l t) t) (sym (stepped-failed s vol i l t n)) (fails s vol (number s vol i l t) t)

ends : (s : Setting) (vol : Volume) (input : List ℕ) (k : ℕ) (t : Turn) → t.progress.failed ≡ true → run s vol input k t ≡ t
unfolding run
ends s vol input k t f = runs-stop s vol input k s.terms.head.count t (failed-stops s k t f)

-- ---- the tally

charged : (s : Setting) (vol : Volume) (i : Instruction) (l : List (List ℕ)) (t : Turn) → judged s (root_at s vol t) t.progress i l ≡ 0
    → (stepped s vol i l t).progress.tally ≡ t.progress.tally + cost s.terms.head.length s.terms.prices (op_of i.name)
    (args_of (op_of i.name) l).len
unfolding succeeding ran_progress
charged s vol i l t e = ap (λ (x : Stepped). x.progress.tally) (stepped-ran s vol i l t e)

same-tally : (p : Progress) → (with_failed (with_written p (p.written + 72)) true).tally ≡ p.tally
unfolding with_failed with_written
same-tally p = refl

step-within : (s : Setting) (vol : Volume) (i : Instruction) (l : List (List ℕ)) (t : Turn) → t.progress.tally ≤ s.terms.budget
    → (stepped s vol i l t).progress.tally ≤ s.terms.budget
step-within s vol i l t h =
    by (eqb (judged s (root_at s vol t) t.progress i l) 0)
    (λ e. let j : judged s (root_at s vol t) t.progress i l ≡ 0 = eqb-true _ _ e in
    omega (arith, charged s vol i l t j, (can s (root_at s vol t) t.progress i l j).passed.paid))
    (λ e. let f = writes s vol i l t (eqb-false _ _ e) in omega (arith, h, ap (λ (p : Progress). p.tally) f.progress, same-tally t.progress))

runs-within : (s : Setting) (vol : Volume) (a : List ℕ) (k n : ℕ) (t : Turn) → t.progress.tally ≤ s.terms.budget
    → (runs s vol a k n t).progress.tally ≤ s.terms.budget
unfolding runs step turned
runs-within s vol a k zero t h = h
runs-within s vol a k (suc n) t h =
    by (ready s k t)
    (λ r. subst (λ (x : Turn). x.progress.tally ≤ s.terms.budget) (sym (runs-go s vol a k n t r))
    (runs-within s vol a k n (step s vol a t) (step-within s vol (current s t) (inputs_of (current s t) a) t h)))
    (λ r. subst (λ (x : Turn). x.progress.tally ≤ s.terms.budget) (sym (runs-stop s vol a k (suc n) t r)) h)

pub within : (s : Setting) (vol : Volume) (input : List ℕ) (k : ℕ) (t : Turn) → t.progress.tally ≤ s.terms.budget
    → (run s vol input k t).progress.tally ≤ s.terms.budget
unfolding run
within s vol input k t h = runs-within s vol input k s.terms.head.count t h

-- ---- its sum

-- a failure costs nothing
free : (s : Setting) (f : Spot → List ℕ) (p : Progress) (i : Instruction) (l : List (List ℕ)) → (judged s f p i l ≡ 0 → ⊥) → (planned s f p i l).cost ≡ 0
unfolding judged planned planned_inputs planned_args weighed fitted refused
free s f p i l =
    let way = either_way (λ (r : Plan). (r.number ≡ 0 → ⊥) → r.cost ≡ 0) in
    way _ _ _ (λ _ _. refl) (λ _. way _ _ _ (λ _ _. refl) (λ _. way _ _ _ (λ _ _. refl) (λ _. way _ _ _ (λ _ _. refl) (λ _.
    way _ _ _ (λ _ _. refl) (λ _. way _ _ _ (λ _ _. refl) (λ _. way _ _ _ (λ _ _. refl) (λ _. way _ _ _ (λ _ _. refl) (λ _.
    way _ _ _ (λ _ _. refl) (λ _. way _ _ _ (λ _ _. refl) (λ _. way _ _ _ (λ _ _. refl) (λ _ n. absurd (n refl))))))))))))

own : (s : Setting) (vol : Volume) (i : Instruction) (l : List (List ℕ)) (t : Turn)
    → (stepped s vol i l t).progress.tally ≡ t.progress.tally + (planned s (root_at s vol t) t.progress i l).cost
unfolding succeeding failing ran_progress failed_progress
own s vol i l t =
    stepped-either s vol i l t (λ x. x.progress.tally ≡ t.progress.tally + (planned s (root_at s vol t) t.progress i l).cost)
    (λ e. ap (λ (w : Plan). t.progress.tally + w.cost) (sym (can s (root_at s vol t) t.progress i l e).plan))
    (λ e. omega (arith, free s (root_at s vol t) t.progress i l e))

runs-summed : (s : Setting) (vol : Volume) (a : List ℕ) (k n : ℕ) (t : Turn) → (runs s vol a k n t).progress.tally ≡ t.progress.tally + charges s vol a k n t
unfolding runs charges step turned
runs-summed s vol a k zero t = omega arith
runs-summed s vol a k (suc n) t =
    by (ready s k t)
    (λ r. ap (λ (x : Turn). x.progress.tally) (runs-go s vol a k n t r)
    ∙ runs-summed s vol a k n (step s vol a t)
    ∙ ap (λ (m : ℕ). m + charges s vol a k n (step s vol a t)) (own s vol (current s t) (inputs_of (current s t) a) t)
    ∙ add_assoc _ _ _
    ∙ ap (λ (m : ℕ). t.progress.tally + m) (sym (picks (ready s k t) _ 0 r)))
    (λ r. ap (λ (x : Turn). x.progress.tally) (runs-stop s vol a k (suc n) t r)
    ∙ (let q : t.progress.tally ≡ t.progress.tally + 0 = omega arith in q)
    ∙ ap (λ (m : ℕ). t.progress.tally + m) (sym (skips (ready s k t) _ 0 r)))

pub summed : (s : Setting) (vol : Volume) (input : List ℕ) (k : ℕ) (t : Turn)
    → (run s vol input k t).progress.tally ≡ t.progress.tally + charges s vol input k s.terms.head.count t
unfolding run
summed s vol input k t = runs-summed s vol input k s.terms.head.count t

-- ---- one instruction

-- a number that has a class
record Classed (n : ℕ) : Type 0 where
  known : is_known (class_of n) ≡ true

done : Classed 0
unfolding class_of pick
done = record { known = refl }

invalid : (n : ℕ) → 21 ≤ n → n ≤ 28 → Classed n
invalid n lo hi = record { known = sym (ap is_known (is-invalid n lo hi)) }

host : (n : ℕ) → 40 ≤ n → n ≤ 42 → Classed n
host n lo hi = record { known = sym (ap is_known (is-host n lo hi)) }

-- down the chain of checks
classed : (s : Setting) (vol : Volume) (i : Instruction) (l : List (List ℕ)) (t : Turn) → Classed (judged s (root_at s vol t) t.progress i l)
unfolding judged planned planned_inputs planned_args weighed fitted refused
classed s vol i l t =
    let way = either_way (λ (r : Plan). Classed r.number) in
    way _ _ _ (λ _. invalid 21 (omega arith) (omega arith)) (λ _. way _ _ _ (λ _. invalid 22 (omega arith) (omega arith)) (λ _.
    way _ _ _ (λ _. invalid 23 (omega arith) (omega arith)) (λ _. way _ _ _ (λ _. invalid 24 (omega arith) (omega arith)) (λ _.
    way _ _ _ (λ _. invalid 25 (omega arith) (omega arith)) (λ _. way _ _ _ (λ _. invalid 26 (omega arith) (omega arith)) (λ _.
    way _ _ _ (λ _. invalid 27 (omega arith) (omega arith)) (λ _. way _ _ _ (λ _. invalid 28 (omega arith) (omega arith)) (λ _.
    way _ _ _ (λ _. host 40 (omega arith) (omega arith)) (λ _. way _ _ _ (λ _. host 41 (omega arith) (omega arith)) (λ _.
    way _ _ _ (λ _. host 42 (omega arith) (omega arith)) (λ _. done)))))))))))

-- ---- the roots kept beside the stage's slots

module _ (s : Setting) (vol : Volume) (i : Instruction) (l : List (List ℕ)) (t : Turn) where
  abbrev positions : List ℕ
  positions = touched s.sector t.progress.size (op_of i.name) (args_of (op_of i.name) l)

  abbrev Rehashes : Stepped → Type 0
  Rehashes after = (at : ℕ) → some (eqb at) positions ≡ true → let n = get_or after.progress.staged at none in
      n * 32 + 32 ≤ length t.roots → part after.roots (n * 32) 32 ≡ root (part after.stage (n * s.sector) s.sector)

  abbrev Stays : Stepped → Type 0
  Stays after = (n : ℕ) → ((at : ℕ) → some (eqb at) positions ≡ true → get_or after.progress.staged at none ≡ n → ⊥)
      → part after.roots (n * 32) 32 ≡ part t.roots (n * 32) 32

  rehashes : number s vol i l t ≡ 0 → Rehashes (stepped s vol i l t)
  unfolding succeeding ran_progress
  rehashes e = subst Rehashes (sym (stepped-ran s vol i l t e)) (λ at u room. rehashed-in s.sector _ _ positions t.roots at u refl room)

  stays : Stays (stepped s vol i l t)
  unfolding succeeding failing ran_progress
  stays = stepped-either s vol i l t Stays (λ _ n out. rehashed-out s.sector _ n positions t.roots out) (λ _ _ _. refl)

laid : (s : Setting) (vol : Volume) (i : Instruction) (l : List (List ℕ)) (t : Turn)
    → (turned t (stepped s vol i l t)).output ≡ put t.output t.progress.written (stepped s vol i l t).bytes
unfolding turned
laid s vol i l t = refl

pub instructed : (s : Setting) (vol : Volume) (i : Instruction) (l : List (List ℕ)) (t : Turn) → Instructed s vol i l t
instructed s vol i l t = record {
  writes = laid s vol i l t;
  classed = (classed s vol i l t).known;
  fails = writes s vol i l t;
  ends = λ input k. ends s vol input k t;
  costs = charged s vol i l t;
  rehashes = rehashes s vol i l t;
  stays = stays s vol i l t;
}

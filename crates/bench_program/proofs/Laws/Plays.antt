-- Calls one after another, up to the first refusal. Assumes nothing.
use Rattle.lists.proofs.Kit.{◌≡◌, refl, ap, ap₂, sym, ◌∙◌, false, not, List, ◌++◌, ℕ, ◌-◌, min, arith, length, take, drop, take_all, eqb, eq-eqb}
use Rattle.lists.proofs.Kit.{ne_eqb}
use lib.IntN.{pos}
use Rattle.std.specs.Prelude.{Some, Ok, Err}
use Rattle.lists.specs.Pick.{pick}
use Rattle.lists.proofs.Laws.Pick.{yes, no, by, picks, skips}
use Rattle.lists.proofs.Laws.Slices.{take_min, drop_min}
use Rattle.host.specs.Refusals.{number_of, number_in}
use Rattle.host.specs.Empty.{bare}
use Rattle.host.specs.Calls.{Made, answered, freshed}
use Rattle.host.proofs.Laws.Refusals.{number-not}
use Rattle.machine_rules.specs.View.{areas_right}
use Rattle.machine_rules.specs.Calls.{Answer, Reached, Pieced, pieced, opened, piece, refusal, no_pair, reached_at, reached_by, reached}
use Rattle.machine_rules.specs.Commit.{Closed, closed, close_by, close}
use Rattle.machine.specs.Asks.{answer_of, reached_of}
use Rattle.machine.proofs.Laws.Hosts.{stops}
use Rattle.bench_program.specs.Single.{Ran, ran, leaves, ids_in, formed_in_turn, ended, shown, given, begun, run}
use Rattle.host.specs.declared.refusal.Refusal.{Refusal}
use Rattle.host.specs.declared.Prices.{Prices}
use Rattle.host.specs.declared.Host.{Host}
use Rattle.machine_rules.specs.declared.Pair.{Pair}
use Rattle.machine.specs.declared.answers.Done.{Done}
use Rattle.bench_program.specs.declared.Outcome.{Outcome}

-- ---- a call that is refused ends it; one that is not goes on

-- what a refusal shows
abbrev pub without : Refusal → Host → Outcome
without why h = record { refused = Some why; written = 0; host = h }

-- a call's answer is r, and s what it means
module _ {A : Type 0} (number : A → ℕ) {r s : A} (e : r ≡ s) where
  passes : number r ≡ 0 → not (eqb (number s) 0) ≡ false
  passes w = ap not (eq-eqb _ 0 (sym (ap number e) ∙ w))

  halts : (left : A → Ran) (more : Ran) → (number r ≡ 0 → ⊥) → left r ≡ pick (not (eqb (number s) 0)) (left s) more
  halts left more w = yes _ _ _ (ap not (ne_eqb _ 0 (λ z. w (ap number e ∙ z)))) (ap left e)

  goes : (left : Ran) (more : A → Ran) {x : Ran} → number r ≡ 0 → x ≡ more r → x ≡ pick (not (eqb (number s) 0)) left (more s)
  goes left more w q = no _ _ _ (passes w) (q ∙ ap more e)

-- ---- the close, with the pair reached

pub ended_is : (disk : List ℕ) (h : Host) (stage : List ℕ) {pair : Pair} {x : Closed} → reached_of (Ok pair) ≡ reached disk h stage
    → x ≡ close disk h stage (not h.program.progress.failed) pair.size pair.root → x ≡ ended disk h stage
unfolding ended
ended_is disk h stage e q = q ∙ ap (λ (p : Reached). close disk h stage (not h.program.progress.failed) p.size p.root) e

-- what reaching refuses, closing refuses with the same number
module _ (disk : List ℕ) (h : Host) (stage : List ℕ) where
  abbrev refused : ℕ
  refused = refusal h (areas_right h disk stage)

  same-number : (why : Refusal) → reached_at (number_of why) no_pair ≡ reached disk h stage → number_of why ≡ refused
  unfolding reached_by
  same-number why e =
      by (not (eqb refused 0))
      (λ t. ap (λ (r : Reached). r.number) e ∙ ap (λ (r : Reached). r.number) (picks _ (reached_at refused no_pair) _ t))
      (λ f. absurd (number-not why (ap (λ (r : Reached). r.number) e ∙ ap (λ (r : Reached). r.number) (skips _ (reached_at refused no_pair) _ f))))

  pub ended-refused : (why : Refusal) → reached_at (number_of why) no_pair ≡ reached disk h stage
      → closed (number_of why) 0 (pos 0) h disk ≡ ended disk h stage
  unfolding ended close_by
  ended-refused why e = stops (λ k. closed k 0 (pos 0) h disk) _ (same-number why e) (number-not why) refl

-- ---- the piece, with the front part of the input area, and the close

-- the part that is lent, and what is behind it, where the area may be shorter than declared
pub front-is : (d n : ℕ) (input : List ℕ) → n ≡ min d (length input) → take (n - 0) (drop 0 input) ≡ take d input
front-is d n input e = ap (λ (k : ℕ). take k input) (let q : n - 0 ≡ min d (length input) = omega arith in q) ∙ take_min d (length input) input refl

pub rest-is : (d n : ℕ) (input : List ℕ) → n ≡ min d (length input) → drop (n - 0) (drop 0 input) ≡ drop d input
rest-is d n input e =
    let q : n - 0 ≡ min d (length input) = omega arith in
    ap (λ (k : ℕ). drop k input) q ∙ sym (ap (drop (min d (length input))) (take_all (length input) input (omega arith)))
    ∙ drop_min d (length input) input refl

abbrev front : Host → List ℕ → List ℕ
front h input = take h.program.terms.head.length input

abbrev behind : Host → List ℕ → List ℕ
behind h input = drop h.program.terms.head.length input

module _ (h : Host) (bytes disk stage input output : List ℕ) {n tally : ℕ} {g : Host} {st inp out lent rest : List ℕ} (l : lent ≡ front h input)
    (p : pieced n tally g st inp out ≡ piece disk h stage lent output bytes) (b : rest ≡ behind h input) where
  taken : pieced n tally g st inp out ≡ piece disk h stage (front h input) output bytes
  taken = p ∙ ap (λ (x : List ℕ). piece disk h stage x output bytes) l

  pub given-refused : (why : Refusal) {o : Outcome} → n ≡ number_of why → o ≡ without why g
      → leaves o disk st (inp ++ rest) out ≡ given h bytes disk stage input output
  unfolding given
  given-refused why {o} is q =
      ap₂ (λ (x : Outcome) (y : List ℕ). leaves x disk st (inp ++ y) out) q b
      ∙ ap (λ k. ran k 0 g disk st (inp ++ behind h input) out) (sym is)
      ∙ halts (λ (x : Pieced). x.number) taken (λ (x : Pieced). ran x.number 0 x.host disk x.stage (x.input ++ behind h input) x.output) _
      (λ z. number-not why (sym is ∙ z))

  -- what the close leaves, and the records that it shows
  pub given-closed : (o : Outcome) {d : Closed} {left : List ℕ} → n ≡ 0 → d ≡ ended disk g st → left ≡ d.disk → number_in o.refused ≡ d.number
      → o.written ≡ shown d.number g.program.progress.written → o.host ≡ d.host
      → leaves o left st (inp ++ rest) out ≡ given h bytes disk stage input output
  unfolding given
  given-closed o {d} {left} none e a number written host =
      let after : Closed → Pieced → Ran = λ c x. ran c.number (shown c.number x.host.program.progress.written) c.host c.disk x.stage
      (x.input ++ behind h input) x.output in
      (λ i. ran (number i) (written i) (host i) (a i) st (inp ++ b i) out)
      ∙ goes (λ (x : Pieced). x.number) taken _ (λ (x : Pieced). after (ended disk x.host x.stage) x) none
      (ap (λ (c : Closed). after c (pieced n tally g st inp out)) e)

-- a close that is refused shows no record
pub shown-none : (n written : ℕ) → (n ≡ 0 → ⊥) → 0 ≡ shown n written
unfolding shown
shown-none n written w = no _ _ _ (ne_eqb _ 0 w) refl

pub shown-all : (written : ℕ) → written ≡ shown 0 written
unfolding shown
shown-all written = yes _ _ _ refl refl

-- ---- opening

module _ (h : Host) (prices : Prices) (budget : ℕ) (head bytes disk stage input output : List ℕ) where
  pub begun-refused : (why : Refusal) {o : Outcome} → answer_of h (Err why) ≡ opened h head budget prices (length output) → o ≡ without why h
      → leaves o disk stage input output ≡ begun h prices budget head bytes disk stage input output
  unfolding begun
  begun-refused why e q =
      ap (λ (x : Outcome). leaves x disk stage input output) q
      ∙ halts (λ (x : Answer). x.number) e (λ x. ran x.number 0 x.host disk stage input output) _ (number-not why)

  pub begun-goes : (done : Done) {x : Ran} → answer_of h (Ok done) ≡ opened h head budget prices (length output)
      → x ≡ given done.host bytes disk stage input output → x ≡ begun h prices budget head bytes disk stage input output
  unfolding begun
  begun-goes done e q = goes (λ (x : Answer). x.number) e _ (λ (x : Answer). given x.host bytes disk stage input output) refl q

-- ---- a fresh host, and its contracts

module _ (z : ℕ) (prices : Prices) (budget : ℕ) (ids head bytes disk stage input output : List ℕ) where
  pub run-unmade : (why : Refusal) {h : Host} {o : Outcome} → answered (number_of why) (bare 0 0 0) ≡ freshed z (length disk) (length stage)
      → h ≡ bare 0 0 0 → o ≡ without why h → leaves o disk stage input output ≡ run z prices budget ids head bytes disk stage input output
  unfolding run
  run-unmade why e i q =
      ap (λ (x : Outcome). leaves x disk stage input output) (q ∙ ap (without why) i)
      ∙ halts (λ (x : Made). x.number) e (λ x. ran x.number 0 x.host disk stage input output) _ (number-not why)

  module _ {h : Host} (e : answered 0 h ≡ freshed z (length disk) (length stage)) where
    formed-on : {r : Made} → r ≡ formed_in_turn h (ids_in ids) → r ≡ formed_in_turn (freshed z (length disk) (length stage)).host (ids_in ids)
    formed-on q = q ∙ ap (λ (x : Made). formed_in_turn x.host (ids_in ids)) e

    pub run-unformed : (why : Refusal) {g : Host} {o : Outcome} → answered (number_of why) g ≡ formed_in_turn h (ids_in ids) → o ≡ without why g
        → leaves o disk stage input output ≡ run z prices budget ids head bytes disk stage input output
    unfolding run
    run-unformed why q t =
        ap (λ (x : Outcome). leaves x disk stage input output) t
        ∙ no _ _ _ (passes (λ (x : Made). x.number) e refl)
        (halts (λ (x : Made). x.number) (formed-on q) (λ x. ran x.number 0 x.host disk stage input output) _ (number-not why))

    pub run-goes : {g : Host} {x : Ran} → answered 0 g ≡ formed_in_turn h (ids_in ids)
        → x ≡ begun g prices budget head bytes disk stage input output → x ≡ run z prices budget ids head bytes disk stage input output
    unfolding run
    run-goes q s = no _ _ _ (passes (λ (x : Made). x.number) e refl)
        (goes (λ (x : Made). x.number) (formed-on q) _ (λ (x : Made). begun x.host prices budget head bytes disk stage input output) refl s)

-- `bench_program::reading::wrong` meets its contract: a walk down the definition. Assumes nothing.
use Rattle.lists.proofs.Kit.{◌≡◌, refl, sym, ap, ◌∙◌, false, not, List, ℕ, length, eqb, ltb, eq-eqb, ne_eqb, lt-ltb, le-ltb}
use Rattle.lists.proofs.Laws.Pick.{yes, no}
use Rattle.bench_program.specs.Input.{number_at, wrong}
use Rattle.bench_program.proofs.reading.wrong.Goals as goal
use Rattle.bench_program.proofs.reading.wrong.Goals.{Else-all-lt-FRONT, Else-load-ne7}

-- ---- what the tests told
abbrev all : Else-all-lt-FRONT → List ℕ
all c = c.args.all.now

not-1 : (c : Else-all-lt-FRONT) → ltb (length (all c)) 80 ≡ false
not-1 c = le-ltb _ 80 c.if-all-lt-FRONT.false

not-2 : (c : Else-load-ne7) → not (eqb (number_at (all (goal.at.Else-load-ne7 c).Else-all-lt-FRONT) 0) 7) ≡ false
unfolding number_at
not-2 c = ap not (eq-eqb _ 7 (sym c.load.ensures ∙ c.if-load-ne7.false))

pub returns-then-load-ne7 : goal.returns-then-load-ne7
unfolding wrong number_at
returns-then-load-ne7 c = no _ _ _ (not-1 (goal.at.returns-then-load-ne7 c).Else-all-lt-FRONT) (yes _ _ _ (ap not (ne_eqb _ 7 (λ q. c.if-load-ne7.true (c.load.ensures ∙ q)))) refl)

pub returns-then-not-prices_right : goal.returns-then-not-prices_right
unfolding wrong
returns-then-not-prices_right c =
    no _ _ _ (not-1 (goal.at.returns-then-not-prices_right c).Else-all-lt-FRONT) (no _ _ _ (not-2 (goal.at.returns-then-not-prices_right c).Else-load-ne7) (yes _ _ _ (ap not (sym c.prices_right.ensures ∙ c.if-not-prices_right.true)) refl))

pub returns : goal.returns
unfolding wrong
returns c =
    no _ _ _ (not-1 (goal.at.returns c).Else-all-lt-FRONT) (no _ _ _ (not-2 (goal.at.returns c).Else-load-ne7)
    (no _ _ _ (ap not (sym c.prices_right.ensures ∙ c.if-not-prices_right.false)) c.cut_short.ensures))

pub returns-then-all-lt-FRONT : goal.returns-then-all-lt-FRONT
unfolding wrong
returns-then-all-lt-FRONT c = yes _ _ _ (lt-ltb _ 80 c.if-all-lt-FRONT.true) refl

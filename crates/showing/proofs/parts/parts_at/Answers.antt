-- `showing::parts::parts_at` meets its contract: each test in turn finds what is missing, and past them all the parts stand where the two
-- counts, as they were read, put them. Assumes nothing.
use Rattle.lists.proofs.Kit.{◌≡◌, refl, ap, ◌∙◌, List, ℕ, ◌+◌, ◌-◌, ◌*◌, ◌/◌, ◌≤◌, ◌<◌, length, lt-ltb, le-ltb}
use Rattle.lists.proofs.Laws.Pick.{yes, no}
use Rattle.showing.specs.Whole.{Told, number_at, lacking, standing, output_at, parts_at}
use Rattle.showing.proofs.parts.parts_at.Goals as goal

module _ (b : List ℕ) (at n : ℕ) (read : n ≡ number_at b (at + 56)) (ahead : 64 ≤ length b - at) where
  -- the hashes are missing
  short : (length b - (at + 64)) / 32 < n → lacking 2 (at + 56) ≡ parts_at b at
  unfolding parts_at
  short h = no _ _ _ (le-ltb _ _ ahead) (yes _ _ _ (lt-ltb _ _ (rw read at h)) refl)

  -- they are there
  past : {r : Told} → n ≤ (length b - (at + 64)) / 32 → r ≡ output_at b at (at + 64 + 32 * n) → r ≡ parts_at b at
  unfolding parts_at
  past h e =
      no _ _ _ (le-ltb _ _ ahead) (no _ _ _ (le-ltb _ _ (rw read at h)) (e ∙ ap (λ (m : ℕ). output_at b at (at + 64 + 32 * m)) read))

module _ (b : List ℕ) (at middle n : ℕ) (read : n ≡ number_at b middle) (counted : 8 ≤ length b - middle) where
  -- the output is missing
  cut : length b - (middle + 8) < n → lacking 4 middle ≡ output_at b at middle
  unfolding output_at
  cut h = no _ _ _ (le-ltb _ _ counted) (yes _ _ _ (lt-ltb _ _ (rw read at h)) refl)

  -- it is there
  all : n ≤ length b - (middle + 8) → standing at middle n ≡ output_at b at middle
  unfolding output_at
  all h = no _ _ _ (le-ltb _ _ counted) (no _ _ _ (le-ltb _ _ (rw read at h)) (ap (standing at middle) read))

-- the output's count is missing
uncounted : (b : List ℕ) (at middle : ℕ) → length b - middle < 8 → lacking 3 middle ≡ output_at b at middle
unfolding output_at
uncounted b at middle h = yes _ _ _ (lt-ltb _ _ h) refl

pub returns-then-input-at-lt-AHEAD-clause-value : goal.returns-then-input-at-lt-AHEAD-clause-value
unfolding parts_at
returns-then-input-at-lt-AHEAD-clause-value c = yes _ _ _ (lt-ltb _ _ c.if-input-at-lt-AHEAD.true) refl

pub returns-then-input-hashes-clause-value : goal.returns-then-input-hashes-clause-value
returns-then-input-hashes-clause-value c = short _ _ _ c.load-count.ensures c.if-input-at-lt-AHEAD.false c.if-input-hashes.true

pub returns-then-input-middle-lt8-clause-value : goal.returns-then-input-middle-lt8-clause-value
returns-then-input-middle-lt8-clause-value c =
    past _ _ _ c.load-count.ensures c.if-input-at-lt-AHEAD.false c.if-input-hashes.false (uncounted _ _ _ c.if-input-middle-lt8.true)

pub returns-then-input-output-clause-value : goal.returns-then-input-output-clause-value
returns-then-input-output-clause-value c =
    past _ _ _ c.load-count.ensures c.if-input-at-lt-AHEAD.false c.if-input-hashes.false
    (cut _ _ _ _ c.load-length.ensures c.if-input-middle-lt8.false c.if-input-output.true)

pub returns-clause-value : goal.returns-clause-value
unfolding standing
returns-clause-value c =
    past _ _ _ c.load-count.ensures c.if-input-at-lt-AHEAD.false c.if-input-hashes.false
    (all _ _ _ _ c.load-length.ensures c.if-input-middle-lt8.false c.if-input-output.false)

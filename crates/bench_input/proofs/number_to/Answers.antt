-- `bench_input::number_to` meets its contract: no number ends ahead of byte 8 or past the area. Assumes nothing.
use Rattle.lists.proofs.Kit.{refl, lt-ltb, le-ltb}
use Rattle.lists.proofs.Laws.Pick.{yes, no}
use Rattle.bench_program.specs.Input.{number_at}
use Rattle.bench_input.specs.Reader.{number_to}
use Rattle.bench_input.proofs.number_to.Goals as goal

pub returns : goal.returns
unfolding number_to number_at
returns c = no _ _ _ (le-ltb _ 8 c.if-at-lt8.false) (no _ _ _ (le-ltb _ _ c.if-all-at.false) c.load.ensures)

pub returns-then-at-lt8 : goal.returns-then-at-lt8
unfolding number_to
returns-then-at-lt8 c = yes _ _ _ (lt-ltb _ 8 c.if-at-lt8.true) refl

pub returns-then-all-at : goal.returns-then-all-at
unfolding number_to
returns-then-all-at c = no _ _ _ (le-ltb _ 8 c.if-at-lt8.false) (yes _ _ _ (lt-ltb _ _ c.if-all-at.true) refl)

-- `bench_input::Reader::held` meets its contract. Assumes nothing.
use Rattle.lists.proofs.Kit.{refl, sym, ◌∙◌}
use Rattle.lists.proofs.Laws.Pick.{yes, no}
use Rattle.bench_input.specs.Reader.{held}
use Rattle.bench_input.proofs.Reader.held.Goals as goal

pub returns-then-in_data : goal.returns-then-in_data
unfolding held
returns-then-in_data c = yes _ _ _ (sym c.in_data.ensures ∙ c.if-in_data.true) refl

pub returns : goal.returns
unfolding held
returns c = no _ _ _ (sym c.in_data.ensures ∙ c.if-in_data.false) refl

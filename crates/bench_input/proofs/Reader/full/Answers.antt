-- `bench_input::Reader::full` meets its contract. Assumes nothing.
use Rattle.lists.proofs.Kit.{refl, sym, ◌∙◌}
use Rattle.lists.proofs.Laws.Pick.{yes, no}
use Rattle.bench_input.specs.Reader.{full}
use Rattle.bench_input.proofs.Reader.full.Goals as goal

pub returns-then-in_data : goal.returns-then-in_data
unfolding full
returns-then-in_data c = yes _ _ _ (sym c.in_data.ensures ∙ c.if-in_data.true) refl

pub returns-else-in_data : goal.returns-else-in_data
unfolding full
returns-else-in_data c = no _ _ _ (sym c.in_data.ensures ∙ c.if-in_data.false) c.if-in_data.false

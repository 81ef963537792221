-- `bench_input::Reader::ids_from` meets its contract: no id is left, or there is one more. Assumes nothing.
use Rattle.lists.proofs.Kit.{refl, eq-eqb, ne_eqb}
use Rattle.lists.proofs.Laws.Pick.{yes, no}
use Rattle.bench_input.specs.Reader.{ids_from}
use Rattle.bench_input.proofs.Reader.ids_from.Goals as goal

pub returns-then-ids-eq0 : goal.returns-then-ids-eq0
unfolding ids_from
returns-then-ids-eq0 c = yes _ _ _ (eq-eqb _ 0 c.if-ids-eq0.true) refl

pub returns : goal.returns
unfolding ids_from
returns c = no _ _ _ (ne_eqb _ 0 c.if-ids-eq0.false) refl

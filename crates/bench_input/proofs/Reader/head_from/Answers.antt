-- `bench_input::Reader::head_from` meets its contract: no head, or what is kept of it. Assumes nothing.
use Rattle.lists.proofs.Kit.{ap, ℕ, eq-eqb, ne_eqb}
use Rattle.lists.proofs.Laws.Pick.{yes, no}
use Rattle.bench_input.specs.Reader.{reader, head_from}
use Rattle.bench_input.specs.declared.Section.TheVariants.{Head}
use Rattle.bench_input.proofs.Reader.head_from.Goals as goal

pub returns : goal.returns
unfolding head_from
returns c =
    let given = c.args in
    no _ _ _ (ne_eqb _ 0 c.if-n-eq0.false) (ap (λ (m : ℕ). reader Head 0 given.n m given.at) c.min.ensures)

pub returns-then-n-eq0 : goal.returns-then-n-eq0
unfolding head_from
returns-then-n-eq0 c = yes _ _ _ (eq-eqb _ 0 c.if-n-eq0.true) c.data_from.ensures

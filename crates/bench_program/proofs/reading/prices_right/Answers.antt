-- `bench_program::reading::prices_right` meets its contract. The loop's invariant: the answer is that of the prices that are left to look at.
-- Assumes nothing.
use Rattle.lists.proofs.Kit.{refl, sym, ◌∙◌, ◌+◌, ◌*◌, arith, le-leb, lt-leb}
use Rattle.lists.proofs.Laws.Tab.{tab-stops, tab-further, tab-done}
use Rattle.bench_program.specs.Input.{number_at, prices_right}
use Rattle.bench_program.proofs.reading.prices_right.Goals as goal

pub returns-then-load-gt65535 : goal.returns-then-load-gt65535
unfolding number_at
returns-then-load-gt65535 c =
    tab-stops _ _ c.loop-i.i 7 c.loop-i-test.true
    (lt-leb (number_at c.args.all.now (8 + c.loop-i.i * 8)) 65535 (omega (arith, c.if-load-gt65535.true, c.load.ensures)))
    ∙ sym c.loop-i.invariant

pub loop-i-preserved : goal.loop-i-preserved
unfolding number_at
loop-i-preserved c =
    c.loop-i.invariant ∙ tab-further _ _ c.loop-i.i 7 c.loop-i-test.true
    (le-leb (number_at c.args.all.now (8 + c.loop-i.i * 8)) 65535 (omega (arith, c.if-load-gt65535.false, c.load.ensures)))

pub load-requires : goal.load-requires
unfolding prices_right
load-requires c = omega (arith, c.requires)

pub returns : goal.returns
unfolding prices_right
returns c = tab-done _ _ c.loop-i.i 7 (omega arith) ∙ sym c.loop-i.invariant

pub loop-i-init : goal.loop-i-init
unfolding prices_right
loop-i-init c = refl

-- `bench_program::reading::prices_right` meets its contract. The loop's invariant: the answer is that of the prices that are left to look at.
-- Assumes nothing.
use Rattle.lists.proofs.Kit.{◌≡◌, ◌+◌, ◌-◌, ◌*◌, leb}
use Rattle.lists.specs.Tests.{every}
use Rattle.lists.specs.Tab.{tab}
use Rattle.bench_program.specs.Input.{number_at, prices_right}
use Rattle.bench_program.proofs.reading.prices_right.Given as goal

abbrev pub invariant-loop-i : goal.invariant-loop-i
invariant-loop-i l = prices_right l.all ≡ every (λ n. leb n 65535) (tab l.i (7 - l.i) (λ k. number_at l.all (8 + k * 8)))

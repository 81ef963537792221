-- `bench_program::contracts::form_in_turn` meets its contract. The loop's invariant: what all ids come to is what those come to that are left, on the
-- host that was made so far. Assumes nothing.
use Rattle.lists.proofs.Kit.{◌≡◌, ◌-◌, ◌*◌}
use Rattle.lists.specs.Tab.{tab}
use Rattle.area.specs.Area.{part}
use Rattle.bench_program.specs.Single.{formed_in_turn}
use Rattle.bench_program.proofs.contracts.form_in_turn.Given as goal

abbrev pub invariant-loop-i : goal.invariant-loop-i
invariant-loop-i l =
    formed_in_turn l.initial.host (tab 0 l.i-end (λ k. part l.ids (k * 32) 32))
    ≡ formed_in_turn l.host (tab l.i (l.i-end - l.i) (λ k. part l.ids (k * 32) 32))

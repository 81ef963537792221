-- `bench_input::gather` meets its contract. The invariant of its loop: pieces that came lead from a new reader to this one. Assumes nothing.
use Rattle.lists.proofs.Kit.{◌≡◌, length}
use Rattle.bench_input.specs.Reader.{state}
use Rattle.bench_input.proofs.Laws.Gathering.{Came}
use Rattle.bench_input.proofs.gather.Given as goal

abbrev pub invariant-loop-source : goal.invariant-loop-source
invariant-loop-source g l =
    (length l.initial.all ≡ 68810) × (Came l.initial.all (state l.turn.reader l.all) × (length l.all ≡ length l.initial.all))

abbrev pub decreases-loop-source : goal.decreases-loop-source
decreases-loop-source g l = l.turn.left

-- `bench_input::Reader::feed` meets its contract. The invariant of its loop: what is still to be fed leads from here to where all bytes lead from the
-- start. Assumes nothing.
use Rattle.lists.proofs.Kit.{◌≡◌, length, drop}
use Rattle.bench_input.specs.Reader.{state, fed}
use Rattle.bench_input.proofs.Reader.feed.Given as goal

abbrev pub invariant-loop-byte : goal.invariant-loop-byte
invariant-loop-byte l =
    (fed (state l.initial.reader l.initial.all) l.bytes ≡ fed (state l.reader l.all) (drop l.byte-index l.bytes))
    × (length l.all ≡ length l.initial.all)

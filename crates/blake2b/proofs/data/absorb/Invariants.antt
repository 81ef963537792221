-- `blake2b::data::absorb` meets its contract. The loop's invariant: what is to come from here on is what was to come from the start.
-- Assumes nothing.
use Rattle.lists.proofs.Kit.{◌≡◌, ◌+◌, ◌*◌, drop}
use Rattle.blake2b.specs.Blake2b.{before, absorbed}
use Rattle.blake2b.proofs.data.absorb.Given as goal

abbrev pub invariant-loop-i : goal.invariant-loop-i
invariant-loop-i l =
    let at = 128 * l.i in
    absorbed (before l.message) l.t l.message l.initial.h ≡ absorbed (before (drop at l.message)) (l.t + at) (drop at l.message) l.h

-- `host::places::sizes_fit` meets its contract. The loop's invariant: the answer is whether the sizes that are left to look at are
-- within what is left of the limit. Assumes nothing.
use Rattle.lists.proofs.Kit.{◌≡◌, ◌+◌, slice, leb}
use Rattle.host.specs.Places.{others}
use Rattle.host.proofs.places.sizes_fit.Given as goal

abbrev pub invariant-loop-p : goal.invariant-loop-p
invariant-loop-p l = leb (l.size + others l.id l.fn.places) l.limit ≡ leb (others l.id (slice l.p-index 8 l.fn.places)) l.left

-- `walks::hashes` meets its contract, by the depth, which is the measure: outside 1, wholly inside 0, else the sum of what the calls one
-- level down give. Assumes nothing.
use Rattle.tree.proofs.walks.+hashes.Given as goal

abbrev pub decreases-hashes : goal.decreases-hashes
decreases-hashes l = l.sub.depth

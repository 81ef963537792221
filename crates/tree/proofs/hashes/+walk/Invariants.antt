-- `hashes::walk` meets its contract, by the depth, which is the measure: outside the part's root is laid, wholly inside nothing, else
-- the calls one level down lay the left and then the right. Assumes nothing.
use Rattle.tree.proofs.hashes.+walk.Given as goal

abbrev pub decreases-walk : goal.decreases-walk
decreases-walk l = l.sub.depth

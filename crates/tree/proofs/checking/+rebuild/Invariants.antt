-- `rebuild` meets its contract, by the depth, which is the measure: outside the next hash is read, wholly inside it is the root
-- over the leaves given, else the node of what the calls one level down give. Assumes nothing.
use Rattle.tree.proofs.checking.+rebuild.Given as goal

abbrev pub decreases-rebuild : goal.decreases-rebuild
decreases-rebuild l = l.sub.depth

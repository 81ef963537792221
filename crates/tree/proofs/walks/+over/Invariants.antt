-- `walks::over` meets its contract, by the depth, which is the measure: at 0 it is the leaf; else the half is 2 ^ (depth - 1), and the
-- calls below give the roots over one part or two. Assumes nothing.
use Rattle.tree.proofs.walks.+over.Given as goal

abbrev pub decreases-over : goal.decreases-over
decreases-over l = l.sub.depth

-- `Leaves::whole` meets its contract, by the kind of leaf. Assumes nothing.
use Rattle.lists.proofs.Kit.{sym, ap}
use Rattle.tree.specs.Answers.{wholes}
use Rattle.tree.specs.declared.leaves.Leaves.{Leaves}
use Rattle.tree.specs.Leaves.{width, bytes_of}
use Rattle.tree.proofs.leaves.Leaves.whole.Goals as goal

pub returns-in-Segments : goal.returns-in-Segments
unfolding wholes
returns-in-Segments c = sym (ap (λ (l : Leaves). wholes (width l) (bytes_of l)) c.in-Segments.is)

pub returns-in-Roots : goal.returns-in-Roots
unfolding wholes
returns-in-Roots c = sym (ap (λ (l : Leaves). wholes (width l) (bytes_of l)) c.in-Roots.is)

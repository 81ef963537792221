-- `Leaves::leaf` meets its contract, by the kind of leaf. Assumes nothing.
use Rattle.lists.proofs.Kit.{sym, ap, ◌∙◌}
use Rattle.tree.specs.declared.leaves.Leaves.{Leaves}
use Rattle.tree.specs.Leaves.{leaf_at}
use Rattle.tree.proofs.Laws.Leaves.{has-roots, has-segments}
use Rattle.tree.proofs.leaves.Leaves.leaf.Goals as goal

pub segment-requires : goal.segment-requires
segment-requires c = has-segments _ c.in-Segments.is c.requires

pub root-requires : goal.root-requires
root-requires c = has-roots _ c.in-Roots.is c.requires

pub returns-in-Segments : goal.returns-in-Segments
returns-in-Segments c = c.segment.ensures ∙ sym (ap (λ (l : Leaves). leaf_at l c.args.i) c.in-Segments.is)

pub returns-in-Roots : goal.returns-in-Roots
returns-in-Roots c = c.root.ensures ∙ sym (ap (λ (l : Leaves). leaf_at l c.args.i) c.in-Roots.is)

-- `walks::over` meets its contract, by the depth, which is the measure: at 0 it is the leaf, else the calls below give the roots over one
-- part or two. Assumes nothing.
use Rattle.lists.proofs.Kit.{refl, sym, ap, subst, ◌∙◌, ◌-◌, arith}
use lib.Pow.{pow_pos}
use Rattle.tree.specs.Asks.{Over}
use Rattle.tree.specs.Leaves.{are_roots, bytes_of, leaf_at}
use Rattle.tree.specs.Tree.{tree}
use Rattle.tree.specs.declared.walks.Subtree.{Subtree}
use Rattle.tree.proofs.Laws.Leaves.{covers_less}
use Rattle.tree.proofs.Laws.Levels.{below-one, below-two}
use Rattle.tree.proofs.Laws.Trees.{tree-leaf, tree-less, tree-more}
use Rattle.tree.proofs.walks.+over.Goals as goal

pub leaf-requires : goal.leaf-requires
leaf-requires t c = covers_less _ _ _ _ (omega arith) c.requires.all

pub returns-then-sub-eq0 : goal.returns-then-sub-eq0
returns-then-sub-eq0 t c = c.leaf.ensures ∙ sym (tree-leaf _ _ _ _ c.if-sub-eq0.true)

pub over-left-requires : goal.over-left-requires
over-left-requires t c =
    let q = below-two _ c.below.ensures c.in-Two.is in
    let w = c.requires in
    let a = c.args in
    let p = pow_pos (a.sub.depth - 1) in (
      omega (arith, c.if-sub-eq0.false, ap (λ (k : Subtree). k.depth) q.1),
      subst (λ (k : Subtree). Over (are_roots a.leaves) (bytes_of a.leaves) k.at k.n k.depth) (sym q.1)
          (record {
            some = omega (arith, p);
            deep = omega (arith, w.deep);
            top = omega (arith, w.top, q.0);
            all = covers_less _ _ _ _ (omega (arith, q.0)) w.all;
          }),
    )

pub returns-in-One : goal.returns-in-One
returns-in-One t c =
    let q = below-one _ c.below.ensures c.in-One.is in
    tree-less _ _ _ _ _ (omega (arith, c.if-sub-eq0.false)) refl q.0
    (c.over.ensures ∙ ap (λ (k : Subtree). tree k.depth k.at k.n (leaf_at c.args.leaves)) q.1)

pub returns-in-Two : goal.returns-in-Two
returns-in-Two t c =
    let q = below-two _ c.below.ensures c.in-Two.is in
    tree-more _ _ _ _ _ (omega (arith, c.if-sub-eq0.false)) refl q.0
    (c.over-left.ensures ∙ ap (λ (k : Subtree). tree k.depth k.at k.n (leaf_at c.args.leaves)) q.1)
    (c.over-right.ensures ∙ ap (λ (k : Subtree). tree k.depth k.at k.n (leaf_at c.args.leaves)) q.2) c.node.ensures

-- `walks::root` meets its contract: over no leaves zeros, else the root from the depth that holds them. Assumes nothing.
use Rattle.lists.proofs.Kit.{sym, arith}
use Rattle.tree.proofs.Laws.Leaves.{covers_less}
use Rattle.tree.proofs.Laws.Trees.{root_none, root-deep}
use Rattle.tree.proofs.walks.root.Goals as goal

pub over-requires : goal.over-requires
over-requires c =
    record {
      some = omega (arith, c.if-n-eq0.false);
      deep = c.depth.ensures.deep;
      top = omega arith;
      all = covers_less _ _ _ _ (omega arith) c.requires;
    }

pub returns-then-n-eq0 : goal.returns-then-n-eq0
returns-then-n-eq0 c = sym (root_none _ _ c.if-n-eq0.true)

pub returns : goal.returns
returns c = root-deep _ _ _ (omega (arith, c.if-n-eq0.false)) c.depth.ensures c.over.ensures

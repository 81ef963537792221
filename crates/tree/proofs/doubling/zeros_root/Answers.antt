-- `doubling::zeros_root` meets its contract: there are as many turns as levels above a leaf. Assumes nothing.
use Rattle.lists.proofs.Kit.{ap, ◌∙◌, arith}
use Rattle.tree.specs.Zeros.{doubled}
use Rattle.tree.proofs.Doubled.{doubled-leaf, doubled-node, zeros-made}
use Rattle.tree.proofs.doubling.zeros_root.Goals as goal

pub loop-init : goal.loop-init
loop-init c = doubled-leaf c.segment-root.ensures

pub loop-preserved : goal.loop-preserved
loop-preserved c = doubled-node c.loop.counter c.loop.invariant c.node-root.ensures

pub returns : goal.returns
returns c =
    let top = c.ilog2-end.ensures in
    zeros-made _ c.requires c.ilog2-end.result top.power_le top.next_power_gt
    (c.loop.invariant ∙ ap doubled (omega (arith, c.loop-test.false, c.loop.auto.counter-end)))

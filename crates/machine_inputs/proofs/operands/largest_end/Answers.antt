-- `machine_inputs::operands::largest_end` meets its contract. The loop's invariant: what is found so far and the operands that are left give the
-- largest. Assumes nothing.
use Rattle.lists.proofs.Kit.{ap, ◌∙◌, ℕ, ◌+◌, max, arith, slice}
use Rattle.machine_rules.specs.Inputs.{largest}
use Rattle.machine_inputs.proofs.Laws.Ends.{largest-first, largest-further, largest-done, past-further, past-not}
use Rattle.machine_inputs.proofs.operands.largest_end.Goals as goal

pub end_of-requires : goal.end_of-requires
end_of-requires c =
    let long = c.well_formed.1.0.1.0.1 in
    let within = past-not c.args.list c.loop-i.i c.args.n long c.args.declared (omega arith) c.requires.n_bound c.loop-i.invariant.0 in
    omega (arith, within, c.ranges.declared)

pub loop-i-preserved : goal.loop-i-preserved
loop-i-preserved c =
    let long = c.well_formed.1.0.1.0.1 in (
      past-further c.args.list c.loop-i.i c.args.n long _ (omega arith) c.requires.n_bound c.loop-i.invariant.0,
      ap (λ (m : ℕ). max m (largest (slice (c.loop-i.i + 1) c.args.n c.args.list)))
          (c.max-most.ensures ∙ ap (max c.loop-i.most) c.end_of.ensures)
          ∙ largest-further c.args.list c.loop-i.i c.args.n long c.loop-i.most _ (omega arith) c.requires.n_bound
          c.loop-i.invariant.1,
    )

pub returns : goal.returns
returns c =
    largest-done c.args.list c.loop-i.i c.args.n c.well_formed.1.0.1.0.1 _ _ (omega arith) c.loop-i.invariant.1

pub loop-i-init : goal.loop-i-init
loop-i-init c = (c.requires.list_value, largest-first c.args.list c.args.n)

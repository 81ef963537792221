-- `machine_inputs::operands::need` meets its contract: a walk down the definition. Assumes nothing.
use Rattle.lists.proofs.Kit.{refl, sym, ap, ◌∙◌}
use Rattle.lists.specs.Tests.{some}
use Rattle.lists.proofs.Laws.Pick.{yes, no}
use Rattle.machine_rules.specs.Inputs.{past_end, largest, need}
use Rattle.sia.proofs.Laws.Known.{known-instruction}
use Rattle.machine_inputs.specs.Ends.{ends_past}
use Rattle.machine_inputs.proofs.Laws.Ends.{listed-all}
use Rattle.machine_inputs.proofs.operands.need.Goals as goal

pub returns-then-past_end : goal.returns-then-past_end
unfolding need
returns-then-past_end c =
    no _ _ _ (sym c.ill_formed.ensures ∙ c.if-ill_formed.false) (yes _ _ _ (sym c.past_end.ensures ∙ c.if-past_end.true) refl)

pub largest_end-requires : goal.largest_end-requires
unfolding past_end
largest_end-requires c = record {
  n_bound = c.listed.ensures.1;
  list_value = ap (some (ends_past c.args.declared)) (listed-all c.args.i.count c.args.i.operands (known-instruction c.args.i _ c.well_formed.1.0).1 _
      c.listed.ensures.0)
      ∙ sym c.past_end.ensures ∙ c.if-past_end.false;
}

pub returns : goal.returns
unfolding need
returns c =
    no _ _ _ (sym c.ill_formed.ensures ∙ c.if-ill_formed.false)
    (no _ _ _ (sym c.past_end.ensures ∙ c.if-past_end.false)
    (c.largest_end.ensures ∙ ap largest (listed-all c.args.i.count c.args.i.operands (known-instruction c.args.i _ c.well_formed.1.0).1 _
    c.listed.ensures.0)))

pub returns-then-ill_formed : goal.returns-then-ill_formed
unfolding need
returns-then-ill_formed c = yes _ _ _ (sym c.ill_formed.ensures ∙ c.if-ill_formed.true) refl

-- `machine_plan::chain::planned` meets its contract: a walk down the definition. Assumes nothing.
use Rattle.lists.proofs.Kit.{◌≡◌, sym, ap, ◌∙◌, refl, not, false, List, ℕ}
use Rattle.lists.proofs.Laws.Pick.{yes, no}
use Rattle.sia.specs.Names.{op_of}
use Rattle.machine_rules.specs.Roots.{kept_root}
use Rattle.machine_rules.specs.Inputs.{ill_formed, past_end, inputs_of}
use Rattle.sia.specs.declared.Op.{Op}
use Rattle.machine_rules.specs.declared.Spot.{Spot}
use Rattle.machine_inputs.specs.Given.{Given, given, malformed, from_of}
use Rattle.machine_inputs.proofs.Laws.Given.{told_is, args_are, from_is}
use Rattle.machine_plan.specs.Planned.{plan_of, failed, said_of, argued}
use Rattle.machine_plan.proofs.Laws.Planned.{fails, argued-is}
use Rattle.machine_rules.specs.Plan.{refused, planned, planned_inputs}
use Rattle.machine_rules.specs.Failure.{failure_number}
use Rattle.machine_rules.specs.declared.failure.Failure.{Failure}
use Rattle.machine_rules.specs.declared.failure.Failure.TheVariants.{IllFormed, PastEnd, Malformed}
use Rattle.machine_plan.proofs.chain.planned.Goals as goal
use Rattle.machine_plan.proofs.chain.planned.Goals.{Else-ill_formed, Else-past_end, Start}

-- ---- what the calls gave, in the definitions' words
-- the operation and the inputs
abbrev the-roots : Start → Spot → List ℕ
the-roots s = kept_root s.args.diskroots.now s.args.stageroots.now

abbrev the-op : Start → Op
the-op s = op_of s.args.i.name

abbrev the-inputs : Start → List (List ℕ)
the-inputs s = inputs_of s.args.i s.args.input.now

-- ---- the checks that did not apply
formed : (c : Else-ill_formed) → ill_formed c.args.i ≡ false
formed c = sym c.ill_formed.ensures ∙ c.if-ill_formed.false

within : (c : Else-past_end) → past_end c.args.setting.terms.head.length c.args.i ≡ false
within c = sym c.past_end.ensures ∙ c.if-past_end.false

-- what the decoder told
heard : (s : Start) {o : Op} {g : Given} → o ≡ the-op s → g ≡ given o (the-inputs s) (from_of o s.args.i)
    → g ≡ given (the-op s) (the-inputs s) (from_of (the-op s) s.args.i)
heard s q e = e ∙ ap (λ (o : Op). given o (the-inputs s) (from_of o s.args.i)) q

-- ---- the rules
-- a check that applies
refuses : (s : Start) (e : Failure) → refused (failure_number e) ≡ planned s.args.setting (the-roots s) s.args.p s.args.i (the-inputs s)
    → failed (the-op s) (refused (failure_number e)) ≡ plan_of s.args.setting (the-roots s) s.args.p s.args.i s.args.input.now
unfolding plan_of
refuses s e q = fails _ (the-op s) _ _ _ e q

pub returns-then-ill_formed : goal.returns-then-ill_formed
unfolding planned
returns-then-ill_formed c =
    refuses (goal.at.returns-then-ill_formed c).Start IllFormed (yes _ _ _ (sym c.ill_formed.ensures ∙ c.if-ill_formed.true) refl)

pub returns-then-past_end : goal.returns-then-past_end
unfolding planned
returns-then-past_end c =
    refuses (goal.at.returns-then-past_end c).Start PastEnd
    (no _ _ _ (formed (goal.at.returns-then-past_end c).Else-ill_formed)
    (yes _ _ _ (sym c.past_end.ensures ∙ c.if-past_end.true) refl))

pub decoded-requires : goal.decoded-requires
decoded-requires c = record {
  op_value = c.op_of-op.ensures;
  i_value = formed (goal.at.decoded-requires c).Else-ill_formed;
  i_value_2 = ap (λ (n : ℕ). past_end n c.args.i) c.requires.input_len ∙ within c;
}

pub returns-in_default : goal.returns-in_default
unfolding planned planned_inputs malformed
returns-in_default c =
    let s = (goal.at.returns-in_default c).Start in
    let told = told_is _ _ _ malformed (heard s c.op_of-op.ensures c.in_default.ensures) in
    refuses s Malformed
    (no _ _ _ (formed (goal.at.returns-in_default c).Else-ill_formed)
    (no _ _ _ (within (goal.at.returns-in_default c).Else-past_end) (yes _ _ _ (ap not (sym told)) refl)))

pub argued-requires : goal.argued-requires
argued-requires c = record { plans = c.requires.plans; good = c.requires.good }

pub returns : goal.returns
returns c =
    let s = (goal.at.returns c).Start in
    let h = heard s c.op_of-op.ensures c.in-Some.ensures in
    let told = sym (told_is _ _ _ _ h) in
    ap (λ (o : Op). said_of o c.argued.result) (sym c.op_of-op.ensures)
    ∙ c.argued.ensures
    ∙ (λ k. argued c.args.setting (the-roots s) c.args.p c.args.i.proof (c.op_of-op.ensures k)
    (args_are _ _ _ _ h told k) (from_is _ _ _ _ h told k))
    ∙ argued-is c.args.setting (the-roots s) c.args.p c.args.i c.args.input.now (formed (goal.at.returns c).Else-ill_formed)
    (within (goal.at.returns c).Else-past_end) told

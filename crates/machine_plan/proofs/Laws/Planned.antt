-- Walking down checks 21 to 25, and on to the plan. Assumes nothing.
use Rattle.lists.proofs.Laws.Pick.{yes, no}
use Rattle.machine_rules.specs.declared.Args.{Args}
use Rattle.lists.proofs.Kit.{◌≡◌, refl, ap, ◌∙◌, true, false, not, List, ℕ, ◌≤◌, arith, eq-eqb, ne_eqb}
use Rattle.sia.specs.Names.{op_of}
use Rattle.sia.proofs.Laws.Limits.{within-is}
use Rattle.host.proofs.Laws.Order.{terms-facts}
use Rattle.machine_rules.specs.declared.Setting.{Setting}
use Rattle.machine_rules.specs.Inputs.{ill_formed, past_end, inputs_of, well_formed, args_of}
use Rattle.machine_rules.specs.Plan.{planned_inputs, planned, refused, spots}
use Rattle.machine_rules.specs.Plan.{source_of}
use Rattle.machine_rules.specs.Facts.{Good}
use Rattle.sia.specs.declared.Instruction.{Instruction}
use Rattle.sia.specs.declared.Op.{Op}
use Rattle.host.specs.declared.Progress.{Progress}
use Rattle.machine_rules.specs.declared.Spot.{Spot}
use Rattle.machine_inputs.specs.Given.{from_of}
use Rattle.machine_plan.specs.Planned.{says, failed, argued, plan_of}
use Rattle.machine_rules.specs.Plan.{Plan}
use Rattle.machine_rules.specs.Failure.{failure_number}
use Rattle.machine_rules.specs.declared.failure.Failure.{Failure}
use Rattle.machine_rules.specs.declared.failure.Failure.TheVariants as Why

-- ---- limits, from the facts of a machine in order

pub length_most : (s : Setting) (p : Progress) → Good s p → s.terms.head.length ≤ 65536
length_most s p g = (within-is _ (terms-facts _ _ _ g.terms).head).declared

pub room_most : (s : Setting) (p : Progress) → Good s p → s.terms.room ≤ 65536
room_most s p g = (terms-facts _ _ _ g.terms).most

-- ---- a failure says nothing else

pub says-failed : (w : Plan) (op : Op) (a : Args) (from : ℕ) (l : List Spot) → (w.number ≡ 0 → ⊥) → failed op w ≡ says w op a from l
unfolding says
says-failed w op a from l n = no _ _ _ (ne_eqb _ _ n) refl

pub says-can : (w : Plan) (op : Op) (a : Args) (from : ℕ) (l : List Spot) → w.number ≡ 0
    → record { plan = w; op = op; args = a; from = from; sectors = l } ≡ says w op a from l
unfolding says
says-can w op a from l e = yes _ _ _ (eq-eqb _ _ e) refl

-- no failure has the number 0
pub counted : (e : Failure) → failure_number e ≡ 0 → ⊥
counted Why.Interrupted h = absurd (omega arith)
counted Why.IllFormed h = absurd (omega arith)
counted Why.PastEnd h = absurd (omega arith)
counted Why.Malformed h = absurd (omega arith)
counted Why.ReadOnly h = absurd (omega arith)
counted Why.NotFound h = absurd (omega arith)
counted Why.BadSpan h = absurd (omega arith)
counted Why.BadProof h = absurd (omega arith)
counted Why.OverBudget h = absurd (omega arith)
counted Why.NoStageSlot h = absurd (omega arith)
counted Why.NoDisk h = absurd (omega arith)
counted Why.NoOutput h = absurd (omega arith)

-- the checks before those of the inputs
pub argued-is : (s : Setting) (f : Spot → List ℕ) (p : Progress) (i : Instruction) (area : List ℕ) → ill_formed i ≡ false
    → past_end s.terms.head.length i ≡ false → well_formed (op_of i.name) (inputs_of i area) ≡ true
    → argued s f p i.proof (op_of i.name) (args_of (op_of i.name) (inputs_of i area)) (from_of (op_of i.name) i) ≡ plan_of s f p i area
unfolding argued plan_of planned planned_inputs
argued-is s f p i area formed within told =
    ap (λ (w : Plan). says w (op_of i.name) (args_of (op_of i.name) (inputs_of i area)) (from_of (op_of i.name) i)
    (spots (source_of s f p (op_of i.name) (args_of (op_of i.name) (inputs_of i area)).key)))
    (no _ _ _ formed (no _ _ _ within (no _ _ _ (ap not told) refl)))

-- a check that applies
pub fails : (r : Plan) (op : Op) (a : Args) (from : ℕ) (l : List Spot) (e : Failure) → refused (failure_number e) ≡ r
    → failed op (refused (failure_number e)) ≡ says r op a from l
unfolding refused
fails r op a from l e q = says-failed _ op a from l (counted e) ∙ ap (λ (x : Plan). says x op a from l) q

-- A task that is what its definition says: its number is what the checks say and, where that is 0, what goes with it is what the step starts from.
-- Assumes nothing.
use Rattle.lists.proofs.Kit.{◌≡◌, refl, sym, ap, ◌∙◌, subst, Bool, false, List, ℕ}
use Rattle.lists.proofs.Kit.{◌+◌, ◌≤◌, ◌<◌, ◌^◌, arith, length, drop, length-take, length-drop, eqb, eqb-false}
use Rattle.lists.proofs.Kit.{eq-eqb}
use Rattle.lists.specs.Pick.{both}
use Rattle.lists.proofs.Laws.Pick.{by, picks, skips, either_left}
use Rattle.area.specs.Area.{part}
use Rattle.sia.specs.Names.{op_of}
use Rattle.machine_rules.specs.View.{Turn, Volume}
use Rattle.machine_rules.specs.Roots.{root_of, root_at}
use Rattle.machine_rules.specs.Inputs.{well_formed, data_in, past_end, inputs_of, nth, args_of}
use Rattle.machine_rules.specs.Plan.{touched, spots, source_of, bad_span, bad_spans, bad_proof, planned, judged}
use Rattle.machine_rules.specs.Effect.{Staging, ground_of, rehashed}
use Rattle.machine_rules.specs.Record.{success_bytes}
use Rattle.machine_rules.specs.Run.{Stepped, ran_progress, succeeding, stepped}
use Rattle.machine_rules.proofs.Laws.Passed.{Passed, plan_fine, Can, can, stepped-ran}
use Rattle.machine_rules.proofs.Laws.Steps.{left-going}
use Rattle.machine_effect.specs.Parts.{staging}
use Rattle.machine_effect.proofs.Laws.Cases.{effect-data}
use Rattle.machine_inputs.specs.Given.{from_of}
use Rattle.machine_inputs.proofs.Laws.Given.{data-given, count-right}
use Rattle.machine_plan.specs.Planned.{says, Said, said, failed, plan_of}
use Rattle.machine_step.specs.Asks.{Tasked}
use Rattle.machine_step.proofs.Laws.Sights.{within_count}
use Rattle.sia.specs.declared.Instruction.{Instruction}
use Rattle.sia.specs.declared.Op.{Op}
use Rattle.sia.specs.declared.Op.TheVariants.{Write}
use Rattle.machine_rules.specs.declared.Args.{Args}
use Rattle.machine_rules.specs.Plan.{Plan}
use Rattle.machine_rules.specs.declared.Setting.{Setting}
use Rattle.machine_rules.specs.declared.Spot.{Spot}
use Rattle.machine_plan.specs.declared.Task.{Task}

-- a part that is as long as was asked lies within
part-within : (l : List ℕ) (at n : ℕ) → 0 < n → length (part l at n) ≡ n → at + n ≤ length l
unfolding part
part-within l at n some e = omega (arith, length-take n (drop at l), length-drop at l)

-- what an instruction leaves, by the stage after its effect
abbrev pub leaves : Setting → Volume → Plan → Bool → List Spot → Op → Args → Turn → Staging → Stepped
leaves s vol w asked l op a t g =
    let roots = rehashed s.sector g (touched s.sector t.progress.size op a) t.roots in
    let after = ran_progress t.progress w g.staged in
    record { progress = after; stage = g.bytes; roots = roots; bytes = success_bytes s vol (root_of s vol g.bytes roots) w after asked l op a g.bytes }

-- it hangs on data only if it is a Write
succeeding-data : (s : Setting) (vol : Volume) (w : Plan) (asked : Bool) (l : List Spot) (op : Op) (a : Args) (d e : List ℕ) (t : Turn) → (op ≡ Write → d ≡ e)
    → succeeding s vol w asked l op a d t ≡ succeeding s vol w asked l op a e t
unfolding succeeding
succeeding-data s vol w asked l op a d e t h =
    ap (leaves s vol w asked l op a t)
    (effect-data s.sector (ground_of s vol) t.progress.size op a d e (staging t.progress.staged t.stage) h)

module _ (s : Setting) (vol : Volume) (t : Turn) (input : List ℕ) (i : Instruction) where
  -- of a plan and what goes with it: the plan of an instruction that can run, and what the step starts from
  pub record Fits (y : Said) : Type 0 where
    pub plan : y.plan ≡ plan_fine s t.progress i.proof (length y.sectors) y.op y.args
    pub passed : Passed s (root_at s vol t) t.progress y.op y.args y.plan.count
    pub sectors : y.sectors ≡ spots (source_of s (root_at s vol t) t.progress y.op y.args.key)
    pub provable : both i.proof (bad_proof y.op y.args) ≡ false
    pub source : y.op ≡ Write → y.from + y.args.len ≤ length input
    pub steps : stepped s vol i (inputs_of i input) t
        ≡ succeeding s vol y.plan i.proof y.sectors y.op y.args (part input y.from y.args.len) t

  plan-is : (r : Said) → r ≡ plan_of s (root_at s vol t) t.progress i input
      → r.plan ≡ planned s (root_at s vol t) t.progress i (inputs_of i input)
  unfolding plan_of says failed
  plan-is r e =
      let w = planned s (root_at s vol t) t.progress i (inputs_of i input) in
      ap (λ (y : Said). y.plan) e
      ∙ by (eqb w.number 0)
      (λ u. ap (λ (y : Said). y.plan) (picks (eqb w.number 0) _ _ u))
      (λ u. ap (λ (y : Said). y.plan) (skips (eqb w.number 0) _ _ u))

  pub number_is : (r : Said) → r ≡ plan_of s (root_at s vol t) t.progress i input
      → r.plan.number ≡ judged s (root_at s vol t) t.progress i (inputs_of i input)
  unfolding judged
  number_is r e = ap (λ (w : Plan). w.number) (plan-is r e)

  module _ (operands : length i.operands ≡ 4) (long : length input ≡ s.terms.head.length)
      (zero : judged s (root_at s vol t) t.progress i (inputs_of i input) ≡ 0) where
    abbrev op : Op
    op = op_of i.name

    abbrev a : Args
    a = args_of (op_of i.name) (inputs_of i input)

    -- what a task says then
    abbrev done : Said
    done =
        let from = spots (source_of s (root_at s vol t) t.progress op a.key) in
        record { plan = plan_fine s t.progress i.proof (length from) op a; op = op; args = a; from = from_of op i; sectors = from }

    k : Can s (root_at s vol t) t.progress i (inputs_of i input)
    k = can s (root_at s vol t) t.progress i (inputs_of i input) zero

    pub says_is : plan_of s (root_at s vol t) t.progress i input ≡ done
    unfolding plan_of says judged
    says_is =
        picks (eqb (planned s (root_at s vol t) t.progress i (inputs_of i input)).number 0) _ _ (eq-eqb _ 0 zero)
        ∙ ap (λ (w : Plan). record { plan = w; op = op; args = a; from = from_of op i; sectors = done.sectors }) k.plan

    -- Write's data
    data_is : op ≡ Write → part input (from_of op i) a.len ≡ data_in (inputs_of i input)
    data_is w =
        let known : Write ≡ op_of i.name = sym w in
        ap (λ (o : Op). part input (from_of o i) (args_of o (inputs_of i input)).len) w
        ∙ data-given input i operands (count-right i Write known k.formed) (ap (λ (n : ℕ). past_end n i) long ∙ k.within)
        (ap (λ (o : Op). well_formed o (inputs_of i input)) known ∙ k.told)

    some-data : op ≡ Write → 0 < a.len
    unfolding bad_spans bad_span
    some-data w =
        let as-write = ap (λ (o : Op). bad_spans s.sector t.progress.size (length done.sectors) o a) (sym w) in
        let b : bad_spans s.sector t.progress.size (length done.sectors) Write a ≡ false = as-write ∙ k.passed.spans in
        let n = eqb-false a.len 0 (either_left _ _ b) in
        omega arith

    write-long : op ≡ Write → length (data_in (inputs_of i input)) ≡ a.len
    unfolding args_of data_in
    write-long w = length-drop 8 (nth (inputs_of i input) 1) ∙ sym (ap (λ (o : Op). (args_of o (inputs_of i input)).len) w)

    done-fits : Fits done
    done-fits = record {
      plan = refl;
      passed = k.passed;
      sectors = refl;
      provable = k.provable;
      source = λ w. part-within input (from_of op i) a.len (some-data w) (ap length (data_is w) ∙ write-long w);
      steps = stepped-ran s vol i (inputs_of i input) t zero ∙ succeeding-data s vol _ _ _ op a _ _ t (λ w. sym (data_is w));
    }

-- a task
pub fits : (s : Setting) (vol : Volume) (t : Turn) (input : List ℕ) (i : Instruction) (r : Task) → Tasked s vol t input i r → Fits s vol t input i (said r)
fits s vol t input i r x =
    let zero = sym (number_is s vol t input i (said r) x.told) in
    subst (Fits s vol t input i) (sym (x.told ∙ says_is s vol t input i x.operands x.steps.input zero))
    (done-fits s vol t input i x.operands x.steps.input zero)

-- no sum passes 64 bits
pub counts : (s : Setting) (vol : Volume) (t : Turn) (input : List ℕ) (i : Instruction) (r : Task) → Tasked s vol t input i r
    → (t.progress.ran + 1 < 2 ^ 64) × ((t.progress.tally + r.plan.cost < 2 ^ 64) × (t.progress.written + r.plan.count ≤ length t.output))
counts s vol t input i r x =
    let f = fits s vol t input i r x in (
      omega (arith, (left-going s t x.steps.going).1, within_count s vol t x.steps),
      (
        omega (arith, f.passed.paid, ap (λ (w : Plan). w.cost) f.plan, x.small),
        omega (arith, f.passed.room, x.steps.output),
      ),
    )

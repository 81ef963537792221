-- The plan of an instruction: its number and, where it can run, all that its effect and its record start from. f reads roots. Assumes
-- nothing.
use Rattle.std.specs.Prelude.{Bool, List, [], ℕ, eqb, Result, Ok, Err}
use Rattle.lists.specs.Pick.{pick}
use Rattle.sia.specs.Names.{op_of}
use Rattle.machine_rules.specs.declared.Setting.{Setting}
use Rattle.machine_rules.specs.Inputs.{inputs_of, args_of}
use Rattle.machine_rules.specs.Plan.{planned_args, planned, refused, spots, source_of}
use Rattle.machine_rules.specs.Failure.{failure_number, plan_made}
use Rattle.machine_rules.specs.declared.failure.Failure.{Failure}
use Rattle.machine_rules.specs.Facts.{Lent}
use Rattle.machine_sight.specs.Seen.{spots_of}
use Rattle.sia.specs.declared.Op.{Op}
use Rattle.sia.specs.declared.Instruction.{Instruction}
use Rattle.host.specs.declared.Progress.{Progress}
use Rattle.machine_rules.specs.declared.Spot.{Spot}
use Rattle.machine_inputs.specs.Given.{no_args, from_of}
use Rattle.machine_rules.specs.declared.Args.{Args}
use Rattle.machine_plan.specs.Source.{Sources}
use Rattle.machine_rules.specs.Plan.{Plan}
use Rattle.machine_plan.specs.declared.Task.{Task}

-- what a plan asks: the numbers of a host in order, and what its look-up asks
pub record Plans (s : Setting) (p : Progress) (diskroots stageroots : List ℕ) : Type 0 where
  pub lent : Lent s
  pub sources : Sources s diskroots stageroots p

-- a plan and what goes with it: of what is read, the sectors
pub record Said : Type 0 where
  pub plan : Plan
  pub op : Op
  pub args : Args
  pub from : ℕ
  pub sectors : List Spot

-- that of an instruction that can run
abbrev pub said : Task → Said
said r = record { plan = plan_made r.plan; op = r.op; args = r.args; from = r.from; sectors = spots_of r.seen }

-- a failure: its plan, and nothing else
unfoldable pub failed : Op → Plan → Said
failed op w = record { plan = w; op = op; args = no_args; from = 0; sectors = [] }

-- what the code answers of an operation
abbrev pub said_of : Op → Result Task Failure → Said
said_of op (Ok r) = said r
said_of op (Err e) = failed op (refused (failure_number e))

-- where an instruction can run, what it starts from
unfoldable pub says : Plan → Op → Args → ℕ → List Spot → Said
says w op a from l = pick (eqb w.number 0) (record { plan = w; op = op; args = a; from = from; sectors = l }) (failed op w)

-- 24 to 42, of arguments that are told
unfoldable pub argued : Setting → (Spot → List ℕ) → Progress → Bool → Op → Args → ℕ → Said
argued s f p asked op a from = says (planned_args s f p asked op a) op a from (spots (source_of s f p op a.key))

unfoldable pub plan_of : Setting → (Spot → List ℕ) → Progress → Instruction → List ℕ → Said
plan_of s f p i area =
    let op = op_of i.name in
    let a = args_of op (inputs_of i area) in
    says (planned s f p i (inputs_of i area)) op a (from_of op i) (spots (source_of s f p op a.key))

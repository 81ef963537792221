-- The numbers of failures, and a plan as the code hands it on: what it says, or why there is none. Assumes nothing.
use Rattle.std.specs.Prelude.{ℕ, Result, Ok, Err}
use Rattle.machine_rules.specs.Plan.{Plan, refused}
use Rattle.machine_rules.specs.declared.Plan as Code
use Rattle.machine_rules.specs.declared.failure.Failure.{Failure}
use Rattle.machine_rules.specs.declared.failure.Failure.TheVariants as Why

-- 20 of an interrupt, 21 to 28 of an instruction, 40 to 42 of the host: document 01's table of checks
abbrev pub failure_number : Failure → ℕ
failure_number Why.Interrupted = 20
failure_number Why.IllFormed = 21
failure_number Why.PastEnd = 22
failure_number Why.Malformed = 23
failure_number Why.ReadOnly = 24
failure_number Why.NotFound = 25
failure_number Why.BadSpan = 26
failure_number Why.BadProof = 27
failure_number Why.OverBudget = 28
failure_number Why.NoStageSlot = 40
failure_number Why.NoDisk = 41
failure_number Why.NoOutput = 42

-- of an instruction that can run
abbrev pub plan_made : Code.Plan → Plan
plan_made p = record { number = 0; cost = p.cost; size = p.size; hashes = p.hashes; count = p.count }

-- of one that cannot, the number of its failure, and nothing else
abbrev pub plan_given : Result Code.Plan Failure → Plan
plan_given (Ok p) = plan_made p
plan_given (Err e) = refused (failure_number e)

-- One instruction, and instructions in turn while their need has come. Assumes nothing.
use Rattle.std.specs.Prelude.{Bool, true, not, List, ℕ, zero, suc, ◌+◌, get_or, leb, ltb, eqb}
use Rattle.lists.specs.Pick.{pick, both}
use Rattle.area.specs.Area.{put}
use Rattle.sia.specs.Names.{op_of}
use Rattle.sia.specs.Empty.{no_instruction}
use Rattle.machine_rules.specs.View.{Turn, Volume}
use Rattle.machine_rules.specs.declared.Setting.{Setting}
use Rattle.machine_rules.specs.Inputs.{data_in, need, inputs_of, args_of}
use Rattle.machine_rules.specs.declared.Args.{Args}
use Rattle.machine_rules.specs.Roots.{root_of, root_at}
use Rattle.machine_rules.specs.Plan.{spots, source_of, touched, planned}
use Rattle.machine_rules.specs.Effect.{ground_of, effect, rehashed}
use Rattle.machine_rules.specs.Record.{failure_bytes, success_bytes}
use Rattle.sia.specs.declared.Instruction.{Instruction}
use Rattle.sia.specs.declared.Op.{Op}
use Rattle.host.specs.declared.Terms.{Terms}
use Rattle.host.specs.declared.Progress.{Progress}
use Rattle.machine_rules.specs.Plan.{Plan}
use Rattle.machine_rules.specs.declared.Spot.{Spot}

-- ---- one instruction

-- what it leaves: the progress of the program, the stage's bytes, the roots kept beside the stage's slots, and its record
pub record Stepped : Type 0 where
  pub progress : Progress
  pub stage : List ℕ
  pub roots : List ℕ
  pub bytes : List ℕ

-- "A failure ends the program and otherwise only writes its record."
unfoldable pub failed_progress : Progress → Progress
failed_progress p = record { ran = p.ran; tally = p.tally; written = p.written + 72; size = p.size; failed = true; staged = p.staged }

unfoldable pub failing : Setting → Volume → ℕ → Turn → Stepped
failing s vol number t = record { progress = failed_progress t.progress; stage = t.stage; roots = t.roots; bytes = failure_bytes s vol number }

-- "Cost, fixed before running": what its plan says
unfoldable pub ran_progress : Progress → Plan → List ℕ → Progress
ran_progress p plan staged =
    record { ran = p.ran + 1; tally = p.tally + plan.cost; written = p.written + plan.count; size = plan.size; failed = p.failed; staged = staged }

-- it runs as planned: its effect, the roots of the sectors that it wrote, its record; l are the sectors that it reads
unfoldable pub succeeding : Setting → Volume → Plan → Bool → List Spot → Op → Args → List ℕ → Turn → Stepped
succeeding s vol plan asked l op a d t =
    let p = t.progress in
    let g = effect s.sector (ground_of s vol) p.size op a d (record { staged = p.staged; bytes = t.stage }) in
    let roots = rehashed s.sector g (touched s.sector p.size op a) t.roots in
    let after = ran_progress p plan g.staged in
    record {
      progress = after;
      stage = g.bytes;
      roots = roots;
      bytes = success_bytes s vol (root_of s vol g.bytes roots) plan after asked l op a g.bytes;
    }

-- one instruction, its inputs given
unfoldable pub stepped : Setting → Volume → Instruction → List (List ℕ) → Turn → Stepped
stepped s vol i l t =
    let op = op_of i.name in
    let a = args_of op l in
    let plan = planned s (root_at s vol t) t.progress i l in
    let from = spots (source_of s (root_at s vol t) t.progress op a.key) in
    let runs = succeeding s vol plan i.proof from op a (data_in l) t in
    pick (eqb plan.number 0) runs (failing s vol plan.number t)

-- "Records are written from the first free byte of the output area onward."
unfoldable pub turned : Turn → Stepped → Turn
turned t r =
    record { progress = r.progress; stage = r.stage; output = put t.output t.progress.written r.bytes; roots = r.roots }

-- ---- in turn

-- the first instruction not run
unfoldable pub current : Setting → Turn → Instruction
current s t = get_or s.terms.head.instructions t.progress.ran no_instruction

unfoldable pub step : Setting → Volume → List ℕ → Turn → Turn
step s vol input t = turned t (stepped s vol (current s t) (inputs_of (current s t) input) t)

-- neither ended nor failed; "A program of no instructions has ended at once."
unfoldable pub going : Terms → Progress → Bool
going t p = both (not p.failed) (ltb p.ran t.head.count)

-- "while their need has come": k bytes have come
unfoldable pub ready : Setting → ℕ → Turn → Bool
ready s k t = both (going s.terms t.progress) (leb (need s.terms.head.length (current s t)) k)

-- at most n instructions
unfoldable pub runs : Setting → Volume → List ℕ → ℕ → ℕ → Turn → Turn
runs s vol input k zero t = t
runs s vol input k (suc n) t =
    let more = runs s vol input k n (step s vol input t) in
    pick (ready s k t) more t

-- "instructions run in turn while their need has come"
unfoldable pub run : Setting → Volume → List ℕ → ℕ → Turn → Turn
run s vol input k t = runs s vol input k s.terms.head.count t

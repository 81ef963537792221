-- What the functions of a step ask of their callers. z is the sector size. Assumes nothing.
use Rattle.std.specs.Prelude.{◌≡◌, true, List, ℕ, ◌*◌, ◌/◌, ◌≤◌, ◌<◌, ◌^◌, length}
use Rattle.lists.specs.Tests.{every}
use Rattle.lists.specs.Tab.{tab}
use Rattle.area.specs.Slots.{Size}
use Rattle.machine_rules.specs.View.{kept, Turn, spot_of, Volume}
use Rattle.machine_rules.specs.Roots.{root_at}
use Rattle.machine_rules.specs.Inputs.{inputs_of}
use Rattle.machine_rules.specs.Run.{stepped, turned, going}
use Rattle.machine_rules.specs.Facts.{Solid, Good}
use Rattle.machine_sight.specs.Seen.{lies}
use Rattle.machine_plan.specs.Planned.{said, plan_of}
use Rattle.sia.specs.declared.Instruction.{Instruction}
use Rattle.host.specs.declared.Place.{Place}
use Rattle.host.specs.declared.Progress.{Progress}
use Rattle.machine_rules.specs.declared.Setting.{Setting}
use Rattle.machine_plan.specs.declared.Task.{Task}

-- the parent's sectors up to its running size, a root kept beside each
pub record Reads (z : ℕ) (diskroots stageroots : List ℕ) (p : Place) (g : Progress) : Type 0 where
  pub size : Size z
  pub few : g.size / z ≤ 64
  pub spots : every (lies 32 diskroots stageroots) (tab 0 (g.size / z) (spot_of p.slots g.staged)) ≡ true

-- a program that is going on a host in order, sectors of a size that there is, and its areas as stated; roots as they are kept, 32 bytes beside
-- each slot
pub record Steps (s : Setting) (vol : Volume) (t : Turn) (a : List ℕ) : Type 0 where
  pub solid : Solid s vol
  pub good : Good s t.progress
  pub going : going s.terms t.progress ≡ true
  pub input : length a ≡ s.terms.head.length
  pub stage : length t.stage ≡ s.stagesectors * s.sector
  pub output : length t.output ≡ s.terms.room
  pub way : vol.way ≡ kept
  pub diskroots : length vol.roots ≡ 2048
  pub stageroots : length t.roots ≡ 512

-- the turn after an instruction: its record laid behind the bytes written
abbrev pub stepped_turn : Setting → Volume → Instruction → List ℕ → Turn → Turn
stepped_turn s vol i input t = turned t (stepped s vol i (inputs_of i input) t)

-- an instruction that can run, and its task; no budget passes 64 bits, and instructions have four operands
pub record Tasked (s : Setting) (vol : Volume) (t : Turn) (input : List ℕ) (i : Instruction) (r : Task) : Type 0 where
  pub steps : Steps s vol t input
  pub told : said r ≡ plan_of s (root_at s vol t) t.progress i input
  pub operands : length i.operands ≡ 4
  pub small : s.terms.budget < 2 ^ 64

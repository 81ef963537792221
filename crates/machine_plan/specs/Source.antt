-- What is read, as the code says it; and what its look-up asks. Assumes nothing.
use Rattle.std.specs.Prelude.{List, ℕ, ◌*◌, ◌≤◌, length, Option, Some, None}
use Rattle.machine_rules.specs.declared.Setting.{Setting}
use Rattle.machine_rules.specs.Plan.{Source, missing, seen}
use Rattle.machine_sight.specs.Seen.{spots_of}
use Rattle.machine_sight.specs.Lookup.{Seeks}
use Rattle.machine_sight.specs.declared.Seen.{Seen}
use Rattle.host.specs.declared.Progress.{Progress}

-- of a program in order: a root kept beside each slot in use, of which a host has at most 64 on the disk and 16 in the stage
pub record Sources (s : Setting) (diskroots stageroots : List ℕ) (p : Progress) : Type 0 where
  pub seeks : Seeks s.sector diskroots stageroots s.places s.terms.head.contract p.staged p.size
  pub disk : length diskroots ≤ 64 * 32
  pub stage : length stageroots ≤ 16 * 32

-- the sectors that are seen, or none: it is missing
abbrev pub sighted : Option Seen → Source
sighted (Some v) = seen (spots_of v)
sighted None = missing

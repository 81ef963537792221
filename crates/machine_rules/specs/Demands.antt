-- The three demands, and what document 02's requests promise besides, as one statement over the definitions; `demands` in
-- proofs/Demands.antt is its proof. Each call's code is proved equal to its definition (crates host_contracts to machine), so what is said here
-- holds of the calls. Assumes nothing.
use Rattle.machine_rules.specs.Demand1.{Demand1}
use Rattle.machine_rules.specs.Demand2.{Demand2}
use Rattle.machine_rules.specs.Demand3.{Demand3}
use Rattle.machine_rules.specs.Padded.{ShortIds}
use Rattle.machine_rules.specs.Unchanged.{NothingToAgree}
use Rattle.machine_rules.specs.Sectors.{FullSectors}
use Rattle.machine_rules.specs.KeptRoots.{KeptRoots}
use Rattle.machine_rules.specs.StageFirst.{StageFirst}

pub record Demands : Type 0 where
  -- "No input breaks it."
  pub one : Demand1
  -- "It does what SIP-0001 and document 01 say"
  pub two : Demand2
  -- "in one or more accepted pieces, cut anywhere"
  pub three : Demand3
  -- "No padded short ids."
  pub ids : ShortIds
  -- "Nothing changed, nothing to agree."
  pub unchanged : NothingToAgree
  -- "Full sectors."
  pub sectors : FullSectors
  -- "Keep the sector roots."
  pub roots : KeptRoots
  -- "Look in the stage first."
  pub stage : StageFirst

-- What closing answers, as its definition has it, with the disk as it is left. Assumes nothing.
use Rattle.std.specs.Prelude.{List, ℕ, pos, Result, Ok, Err}
use Rattle.host.specs.Refusals.{number_of}
use Rattle.machine_rules.specs.Commit.{Closed, closed}
use Rattle.host.specs.declared.refusal.Refusal.{Refusal}
use Rattle.host.specs.declared.Host.{Host}
use Rattle.machine.specs.declared.answers.End.{End}
use Rattle.machine.specs.declared.answers.End.TheVariants as End
use Rattle.machine.specs.declared.answers.Closing.{Closing}

-- 0 done; 14 "agreement differs", which closes all the same
abbrev pub end_number : End → ℕ
end_number End.Closed = 0
end_number End.Disagreed = 14

-- a refusal leaves the program open, and all as it was
abbrev pub close_leaves : Host → Result Closing Refusal → List ℕ → Closed
close_leaves h (Ok r) disk = closed (end_number r.end) r.tally r.growth r.host disk
close_leaves h (Err why) disk = closed (number_of why) 0 (pos 0) h disk

-- What a record shows, as the code hands it on. Assumes nothing.
use Rattle.std.specs.Prelude.{List, ℕ}
use Rattle.machine_rules.specs.Roots.{kept_root}
use Rattle.machine_step.specs.Shown.{shown_proof, shown_bytes}
use Rattle.machine_step.specs.declared.records.Shown.{Shown}

abbrev pub proof_of : Shown → List ℕ
proof_of w = shown_proof w.sector w.asked (kept_root w.diskroots.now w.stageroots.now) w.disk.now w.stage.now w.seen w.at w.n

abbrev pub bytes_of : Shown → List ℕ
bytes_of w = shown_bytes w.sector w.reads w.disk.now w.stage.now w.seen w.at w.n

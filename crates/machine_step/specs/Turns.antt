-- What functions ask of their callers. Assumes nothing.
use Rattle.std.specs.Prelude.{◌≡◌, true, List, ℕ, ◌*◌, length}
use Rattle.host.specs.Order.{in_order}
use Rattle.machine_rules.specs.View.{kept, Turn, areas_right, Volume}
use Rattle.machine_rules.specs.declared.Setting.{Setting}
use Rattle.machine_rules.specs.Facts.{Solid, Good}
use Rattle.host.specs.declared.Host.{Host}

-- a host in order with an open program, and its areas as stated
pub record Ready (disk : List ℕ) (h : Host) (stage : List ℕ) : Type 0 where
  pub order : in_order h ≡ true
  pub areas : areas_right h disk stage ≡ true
  pub live : h.program.active ≡ true

-- a program in order and its areas as stated, and roots as they are kept, 32 bytes beside each slot: what instructions in turn ask
pub record Runs (s : Setting) (vol : Volume) (t : Turn) (a : List ℕ) : Type 0 where
  pub solid : Solid s vol
  pub good : Good s t.progress
  pub input : length a ≡ s.terms.head.length
  pub stage : length t.stage ≡ s.stagesectors * s.sector
  pub output : length t.output ≡ s.terms.room
  pub way : vol.way ≡ kept
  pub diskroots : length vol.roots ≡ 2048
  pub stageroots : length t.roots ≡ 512

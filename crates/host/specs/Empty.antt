-- Records that hold nothing: all zeros. Assumes nothing.
use Rattle.std.specs.Prelude.{true, false, List, ℕ, replicate}
use Rattle.area.specs.Area.{zeros}
use Rattle.sia.specs.Empty.{no_head}
use Rattle.host.specs.declared.Place.{Place}
use Rattle.host.specs.declared.Prices.{Prices}
use Rattle.host.specs.declared.Terms.{Terms}
use Rattle.host.specs.declared.Progress.{Progress}
use Rattle.host.specs.declared.Program.{Program}
use Rattle.host.specs.declared.Host.{Host}

-- the stage slot of a position that is not staged
abbrev pub none : ℕ
none = 255

unfoldable pub no_place : Place
no_place = record { held = false; id = zeros 32; size = 0; slots = zeros 64 }

unfoldable pub no_prices : Prices
no_prices = record { init = 0; memory = 0; readbase = 0; readlength = 0; writebase = 0; writelength = 0; truncatebase = 0 }

unfoldable pub no_terms : Terms
no_terms = record { head = no_head; prices = no_prices; budget = 0; room = 0 }

unfoldable pub no_progress : Progress
no_progress = record { ran = 0; tally = 0; written = 0; size = 0; failed = false; staged = zeros 64 }

unfoldable pub no_program : Program
no_program = record { active = false; terms = no_terms; came = 0; progress = no_progress }

-- "A fresh host holds no contract and no open program."
unfoldable pub bare : ℕ → ℕ → ℕ → Host
bare sector disk stage = record {
  sector = sector;
  disk = disk;
  stage = stage;
  places = replicate 8 no_place;
  program = no_program;
  diskroots = zeros 2048;
  stageroots = zeros 512;
}

-- a contract of size 0
unfoldable pub new_place : List ℕ → Place
new_place id = record { held = true; id = id; size = 0; slots = zeros 64 }

-- nothing ran and nothing is staged: the progress of a program as it is opened
unfoldable pub started : ℕ → ℕ → Progress
started tally size = record { ran = 0; tally = tally; written = 0; size = size; failed = false; staged = replicate 64 none }

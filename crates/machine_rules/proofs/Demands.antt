-- The three demands, and what document 02's requests add. Assumes nothing.
use Rattle.area.proofs.Laws.Same.{same-eq}
use Rattle.sia.proofs.Theorems.{reading-what-was-written, writing-what-was-read, same_bytes}
use Rattle.machine_rules.specs.Demands.{Demands}
use Rattle.machine_rules.proofs.Refusing.{refusals}
use Rattle.machine_rules.proofs.Making.{unmade}
use Rattle.machine_rules.proofs.Ordering.{damaged}
use Rattle.machine_rules.proofs.Arrays.{fresh, kept}
use Rattle.machine_rules.proofs.Nothing.{nothing, closing}
use Rattle.machine_rules.proofs.Failing.{instructed}
use Rattle.machine_rules.proofs.Showing.{tells}
use Rattle.machine_rules.proofs.Commits.{agreements}
use Rattle.machine_rules.proofs.Visits.{cut, ran, alike, closing-visits}
use Rattle.machine_rules.proofs.Padded.{short-ids}
use Rattle.machine_rules.proofs.Unchanged.{nothing-to-agree}
use Rattle.machine_rules.proofs.Sectors.{full-sectors}
use Rattle.machine_rules.proofs.Sound.{kept-roots}
use Rattle.machine_rules.proofs.StageFirst.{stage-first}
use Rattle.machine_rules.proofs.Laws.Found.{sought-root}

pub demands : Demands
demands = record {
  one = record {
    refusals = refusals;
    damaged = damaged;
    kept = kept;
    fresh = fresh;
    unmade = unmade;
    nothing = nothing;
    closing = closing;
  };
  two = record {
    instructions = instructed;
    visits = ran;
    tells = tells;
    agreements = agreements;
    closings = closing-visits;
    read = writing-what-was-read;
    written = reading-what-was-written;
    ids = same-eq;
    equals = same_bytes;
    roots = sought-root;
  };
  three = record { cut = cut; alike = alike };
  ids = short-ids;
  unchanged = nothing-to-agree;
  sectors = full-sectors;
  roots = kept-roots;
  stage = stage-first;
}

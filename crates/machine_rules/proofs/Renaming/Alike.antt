-- Every call answers the same under new ids. Assumes nothing.
use Rattle.lists.proofs.Kit.{List, ℕ}
use Rattle.machine_rules.specs.Visit.{Areas}
use Rattle.host.specs.Renaming.{Renaming}
use Rattle.machine_rules.specs.Renaming.{Alike}
use Rattle.host.proofs.Renaming.Places.{in-order-as}
use Rattle.host.specs.declared.Host.{Host}
use Rattle.host.proofs.Renaming.Contracts.{formed_as, forming-as, dropping-as}
use Rattle.machine_rules.proofs.Renaming.Opening.{opened_as, opening-as}
use Rattle.machine_rules.proofs.Renaming.Programs.{interrupted_as, interrupt-as, reached-as, locating-as, piece-as}
use Rattle.machine_rules.proofs.Renaming.Closing.{closed_as, close-as}

pub alike : (r : List ℕ → List ℕ) → Renaming r → (h : Host) (a : Areas) → Alike r h a
unfolding formed_as opened_as interrupted_as closed_as
alike r new h a = record {
  order = in-order-as r new h;
  forming = forming-as r new h;
  dropping = dropping-as r new h;
  opening = opening-as r new h;
  piece = λ input bytes bytes' long long' asks. (piece-as r new h a input bytes bytes' long long' asks).is;
  interrupt = interrupt-as r new a.disk h a.output;
  reached = reached-as r new a.disk h a.stage;
  locating = locating-as r new h;
  closing = λ g. close-as r new a.disk h a.stage g.agree g.size g.root;
}

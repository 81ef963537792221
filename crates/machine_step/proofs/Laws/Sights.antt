-- A root is kept beside all that is seen of the parent as it is read now, and a head within limits has few instructions. z is the sector size.
-- Assumes nothing.
use Rattle.lists.proofs.Kit.{◌≡◌, sym, ap, ◌∙◌, subst, List, ℕ, ◌≤◌, arith, length}
use Rattle.lists.proofs.Kit.{leb-true}
use Rattle.lists.proofs.Laws.Pick.{both_left, both_right}
use Rattle.sia.specs.Encode.{within}
use Rattle.host.specs.Order.{terms_in_order}
use Rattle.machine_rules.specs.View.{Turn, parent, Volume}
use Rattle.machine_rules.specs.Facts.{Solid, Good}
use Rattle.machine_sight.specs.Seen.{spots_of}
use Rattle.machine_sight.proofs.Looks.{program-seeks}
use Rattle.machine_step.specs.Asks.{Reads, Steps}
use Rattle.machine_rules.specs.declared.Setting.{Setting}
use Rattle.lists.proofs.Kit.{◌≡◌, ap, ◌∙◌, List, ℕ, ◌/◌, arith}
use Rattle.lists.specs.Tests.{every}
use Rattle.lists.specs.Tab.{tab}
use Rattle.machine_rules.specs.View.{spot_of}
use Rattle.machine_sight.specs.Seen.{lies, spots_of, Known}
use Rattle.machine_step.specs.Asks.{Reads}
use Rattle.host.specs.declared.Place.{Place}
use Rattle.host.specs.declared.Progress.{Progress}
use Rattle.machine_sight.specs.declared.Seen.{Seen}

pub running-known : (z : ℕ) (diskroots stageroots : List ℕ) (p : Place) (g : Progress) (v : Seen)
    → spots_of v ≡ tab 0 (g.size / z) (spot_of p.slots g.staged) → v.count ≡ g.size / z → Reads z diskroots stageroots p g
    → Known diskroots stageroots v
running-known z diskroots stageroots p g v e n r =
    record { few = omega (arith, r.few); spots = ap (every (lies 32 diskroots stageroots)) e ∙ r.spots }

-- a root is kept beside each sector of the parent of a program in order
pub reads-good : (s : Setting) (vol : Volume) (g : Progress) (diskroots stageroots : List ℕ) (q : Place) → Solid s vol → Good s g
    → length diskroots ≡ 2048 → length stageroots ≡ 512 → q ≡ parent s → Reads s.sector diskroots stageroots q g
unfolding parent
reads-good s vol g diskroots stageroots q solid good d e own =
    let seeks = program-seeks s vol diskroots solid d stageroots e g good in
    subst (λ (p : Place). Reads s.sector diskroots stageroots p g) (sym own)
    (record { size = solid.lent.size; few = seeks.few; spots = seeks.own })

-- a head within limits has at most 32 instructions
pub within_count : (s : Setting) (vol : Volume) (t : Turn) {input : List ℕ} → Steps s vol t input → s.terms.head.count ≤ 32
unfolding terms_in_order within
within_count s vol t x = leb-true _ _ (both_left _ _ (both_left _ _ (both_right _ _ x.good.terms)))

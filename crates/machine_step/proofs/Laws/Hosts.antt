-- What a host in order gives the functions that read its parent. Assumes nothing.
use Rattle.lists.proofs.Kit.{◌≡◌, refl, sym, subst, true, List, [], ℕ, ◌*◌, arith, length, eqb-true}
use Rattle.lists.proofs.Laws.Pick.{both_left}
use Rattle.area.specs.Area.{zeros}
use Rattle.host.specs.Places.{whose, taken}
use Rattle.host.specs.Order.{in_order}
use Rattle.host.proofs.Laws.Order.{order-facts}
use Rattle.host.proofs.Laws.Whose.{whose-order}
use Rattle.machine_rules.specs.View.{turn_of, disk_right, areas_right, parent, parent_spots, setting_of, volume_by, volume_of}
use Rattle.machine_rules.specs.Roots.{kept_root, root_by, root_of}
use Rattle.machine_rules.specs.Record.{starting_pair, running_pair}
use Rattle.machine_rules.specs.Calls.{output_right}
use Rattle.machine_rules.proofs.Laws.Spots.{whose-every}
use Rattle.machine_rules.proofs.Laws.Taking.{blank-right, order-good, order-solid, areas-stage}
use Rattle.machine_sight.specs.Seen.{holds}
use Rattle.machine_sight.proofs.Callers.{slots-hold}
use Rattle.machine_sight.specs.Lookup.{Stands}
use Rattle.machine_step.specs.Asks.{Reads}
use Rattle.machine_step.proofs.Laws.Sights.{reads-good}
use Rattle.machine_step.specs.Turns.{Ready, Runs}
use Rattle.host.specs.declared.Place.{Place}
use Rattle.host.specs.declared.Host.{Host}
use Rattle.machine_rules.specs.declared.Setting.{Setting}

pub disk-long : (h : Host) (disk : List ℕ) → disk_right h disk ≡ true → length disk ≡ h.disk * h.sector
unfolding disk_right
disk-long h disk e = eqb-true _ _ e

pub areas-disk : (h : Host) (disk stage : List ℕ) → areas_right h disk stage ≡ true → disk_right h disk ≡ true
unfolding areas_right
areas-disk h disk stage e = both_left _ _ e

-- the contract of any id stands: a root is kept beside each of its slots
pub stands : (h : Host) (id : List ℕ) {p : Place} → length h.diskroots ≡ 2048 → p ≡ whose id h.places → in_order h ≡ true
    → Stands h.sector h.diskroots p
stands h id long e o =
    let z = h.sector in
    let f = order-facts h o in
    let held = slots-hold 32 h.diskroots h.disk (taken z h.places) (omega (arith, long, f.disk_most)) f.contracts.below in
    subst (Stands z h.diskroots) (sym e) (record {
      size = f.size;
      order = whose-order z id h.places f.contracts.each;
      slots = whose-every (holds 32 h.diskroots) z id h.places held;
    })

-- the parent is read with a root kept beside each of its sectors
pub reads : (h : Host) {p : Place} → length h.program.progress.staged ≡ 64 → length h.diskroots ≡ 2048 → length h.stageroots ≡ 512
    → p ≡ whose h.program.terms.head.contract h.places → in_order h ≡ true → h.program.active ≡ true
    → Reads h.sector h.diskroots h.stageroots p h.program.progress
unfolding volume_by parent
reads h long d s e o live =
    let disk = zeros (h.disk * h.sector) in
    let stage = zeros (h.stage * h.sector) in
    reads-good (setting_of h) (volume_of h disk) h.program.progress h.diskroots h.stageroots _
    (order-solid h disk stage o (blank-right h)) (order-good h o live long) d s e

-- instructions in turn on a host in order, with its areas as stated
pub turns-right : (h : Host) (disk stage input output : List ℕ) {x : Setting} → x ≡ setting_of h → length h.program.progress.staged ≡ 64
    → length h.diskroots ≡ 2048
    → length h.stageroots ≡ 512 → Ready disk h stage → length input ≡ h.program.terms.head.length → output_right h output ≡ true
    → Runs x (volume_of h disk) (turn_of h stage output) input
unfolding output_right turn_of volume_by
turns-right h disk stage input output q long d s r i o = subst (λ (x : Setting). Runs x (volume_of h disk) (turn_of h stage output) input) (sym q) (record {
  solid = order-solid h disk stage r.order r.areas;
  good = order-good h r.order r.live long;
  input = i;
  stage = areas-stage h disk stage r.areas;
  output = eqb-true _ _ o;
  way = refl;
  diskroots = d;
  stageroots = s;
})

-- ---- kept roots look at no area

pub starting-any : (h : Host) (disk : List ℕ) → starting_pair (setting_of h) (volume_of h []) ≡ starting_pair (setting_of h) (volume_of h disk)
unfolding starting_pair parent volume_by root_of root_by
starting-any h disk = refl

pub running-any : (h : Host) (disk stage : List ℕ) → running_pair (setting_of h) (kept_root h.diskroots h.stageroots) h.program.progress
    ≡ running_pair (setting_of h) (root_of (setting_of h) (volume_of h disk) stage h.stageroots) h.program.progress
unfolding running_pair parent_spots parent volume_by root_of root_by
running-any h disk stage = refl

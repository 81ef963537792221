-- Closing and commits under new ids: the parent keeps its slots, and the new ones are the lowest free of the same slots. Assumes nothing.
use Rattle.lists.proofs.Kit.{◌≡◌, refl, sym, ap, ap₂, ◌∙◌, Bool, true, not, List, [], ◌++◌, ℕ, ◌-◌, ◌/◌, zero-div, arith, length, eqb}
use lib.IntN.{pos, ◌-ℤ◌}
use Rattle.lists.specs.Pick.{pick, either}
use Rattle.lists.proofs.Laws.Pick.{by}
use Rattle.lists.proofs.Laws.Ways.{down}
use Rattle.host.specs.Empty.{no_program}
use Rattle.host.specs.With.{with_places, with_program, with_disk_roots, with_size, with_slots}
use Rattle.host.specs.Places.{whose, committed, taken}
use Rattle.host.specs.Order.{parent_in_order, in_order}
use Rattle.host.proofs.Laws.Order.{order-facts}
use Rattle.host.specs.Calls.{replaced}
use Rattle.machine_rules.specs.View.{parent, setting_of, volume_by, volume_of}
use Rattle.machine_rules.specs.Roots.{root_of}
use Rattle.machine_rules.specs.Record.{same_pair, starting_pair, running_pair}
use Rattle.machine_rules.specs.Commit.{Closed, closed, given_up, cut, new_slots, final_slots, copied_back, final_place, commit, agreed}
use Rattle.machine_rules.specs.Commit.{unfinished, close, close_by, agreed_by}
use Rattle.host.specs.Renaming.{Renaming, place_as, host_as}
use Rattle.host.proofs.Renaming.Places.{all_as, id-as, taken_as, replaced-as}
use Rattle.machine_rules.proofs.Laws.Sizes.{nothing-reached}
use Rattle.machine_rules.proofs.Renaming.Sight.{starting-as, running-as}
use Rattle.machine_rules.proofs.Laws.Refusals.{past}
use Rattle.host.specs.declared.Place.{Place}
use Rattle.host.specs.declared.Terms.{Terms}
use Rattle.host.specs.declared.Host.{Host}
use Rattle.machine_rules.specs.declared.Setting.{Setting}
use Rattle.machine_rules.specs.declared.Spot.{Spot}
use Rattle.machine_rules.specs.declared.Pair.{Pair}
use Rattle.host.proofs.Renaming.Contracts.{whose-places}
use Rattle.machine_rules.proofs.Renaming.Refusals.{terms-of, areas-as, refusal-as}
use Rattle.machine_rules.proofs.Renaming.Programs.{setting-as, going-as}

-- the roots that a host with these areas is read with
abbrev roots_of : Host → List ℕ → List ℕ → Spot → List ℕ
roots_of h disk stage = root_of (setting_of h) (volume_of h disk) stage h.stageroots

-- ---- commits

none-new : (z size : ℕ) (keep : List ℕ) → size ≡ 0 → size / z - length keep ≡ 0
none-new z size keep e = ap (λ (n : ℕ). n / z - length keep) e ∙ omega (arith, zero-div z)

no-slots : (disk : ℕ) (used : List ℕ) {n : ℕ} → n ≡ 0 → new_slots disk used n ≡ []
unfolding new_slots
no-slots disk used e = ap (new_slots disk used) e

module _ (r : List ℕ → List ℕ) (new : Renaming r) where
  -- ---- closing

  start-as : (disk : List ℕ) (h : Host) → h.program.active ≡ true
      → starting_pair (setting_of (host_as r h)) (volume_of (host_as r h) disk) ≡ starting_pair (setting_of h) (volume_of h disk)
  unfolding volume_by host_as
  start-as disk h e =
      ap (λ (s : Setting). starting_pair s (volume_of h disk)) (setting-as r new h e) ∙ starting-as r new (setting_of h) (volume_of h disk)

  pair-as : (disk : List ℕ) (h : Host) (stage : List ℕ) → h.program.active ≡ true
      → running_pair (setting_of (host_as r h)) (roots_of (host_as r h) disk stage) (host_as r h).program.progress
      ≡ running_pair (setting_of h) (roots_of h disk stage) h.program.progress
  unfolding volume_by host_as root_of
  pair-as disk h stage e = rw (setting-as r new h e, running-as r new (setting_of h) (roots_of h disk stage) h.program.progress)

  ended_same : (h : Host) → unfinished (host_as r h).program ≡ unfinished h.program
  unfolding unfinished host_as
  ended_same h = ap (either h.program.progress.failed) (going-as r new h)

  unfoldable pub closed_as : Closed → Closed
  closed_as x = closed x.number x.tally x.growth (host_as r x.host) x.disk

  closed-not : (n : ℕ) (h : Host) (disk : List ℕ) → closed n 0 (pos 0) (host_as r h) disk ≡ closed_as (closed n 0 (pos 0) h disk)
  unfolding closed_as
  closed-not n h disk = refl

  given-up-as : (n : ℕ) (disk : List ℕ) (h : Host) → given_up n disk (host_as r h) ≡ closed_as (given_up n disk h)
  unfolding closed_as given_up with_program host_as no_program pick
  given-up-as n disk h = refl

  used-as : (z : ℕ) (ps : List Place) (p : Place) (size : ℕ) → p.held ≡ true
      → taken z (replaced (place_as r p).id (cut size (place_as r p)) (all_as r new ps)) ≡ taken z (replaced p.id (cut size p) ps)
  unfolding cut with_size
  used-as z ps p size e =
      ap (λ (id : List ℕ). taken z (replaced id (place_as r (cut size p)) (all_as r new ps))) (id-as r new p e)
      ∙ ap (taken z) (replaced-as r new p.id (cut size p) ps) ∙ taken_as r new z (replaced p.id (cut size p) ps)

  -- the parent's place is not held in read-only mode alone, and then no slot is new
  slots-as : (z disk : ℕ) (ps : List Place) (c : List ℕ) (size : ℕ) → parent_in_order ps c size ≡ true
      → final_slots z disk (all_as r new ps) (place_as r (whose c ps)) size ≡ final_slots z disk ps (whose c ps) size
  unfolding final_slots cut with_size committed
  slots-as z disk ps c size e =
      let p = whose c ps in
      let keep = committed z (cut size p) in
      by p.held
      (λ held. ap (λ (used : List ℕ). keep ++ new_slots disk used (size / z - length keep)) (used-as z ps p size held))
      (λ free. let none : size / z - length keep ≡ 0 = none-new z size keep (nothing-reached ps c size e free) in
      ap (λ (l : List ℕ). keep ++ l) (no-slots disk (taken z (replaced (place_as r p).id (cut size (place_as r p)) (all_as r new ps))) none
      ∙ sym (no-slots disk (taken z (replaced p.id (cut size p) ps)) none)))

  abbrev body : ℕ → List ℕ → Host → List ℕ → List ℕ → Place → Closed
  body z disk h stage c old =
      let p = h.program.progress in
      let slots = final_slots z h.disk h.places old p.size in
      let roots = copied_back 32 h.stageroots p.staged slots 0 (p.size / z) h.diskroots in
      closed 0 p.tally (pos p.size -ℤ pos old.size)
      (with_disk_roots (with_program (with_places h (replaced c (final_place old p.size slots) h.places)) no_program) roots)
      (copied_back z stage p.staged slots 0 (p.size / z) disk)

  body-as : (disk : List ℕ) (h : Host) (stage c : List ℕ) → parent_in_order h.places c h.program.progress.size ≡ true
      → body (host_as r h).sector disk (host_as r h) stage (r c) (place_as r (whose c h.places))
      ≡ closed_as (body h.sector disk h stage c (whose c h.places))
  unfolding closed_as host_as with_program with_places with_disk_roots no_program pick final_place with_size with_slots
  body-as disk h stage c e =
      let size = h.program.progress.size in
      let old = whose c h.places in
      let slots = final_slots h.sector h.disk h.places old size in
      rw (slots-as h.sector h.disk h.places c size e, replaced-as r new c (final_place old size slots) h.places)

  commit-as : (disk : List ℕ) (h : Host) (stage : List ℕ) → h.program.active ≡ true → in_order h ≡ true
      → commit disk (host_as r h) stage ≡ closed_as (commit disk h stage)
  unfolding commit parent volume_by
  commit-as disk h stage live o =
      let c = h.program.terms.head.contract in
      ap₂ (body (host_as r h).sector disk (host_as r h) stage) (ap (λ (t : Terms). t.head.contract) (terms-of r new h live))
      (ap (λ (t : Terms). whose t.head.contract (host_as r h).places) (terms-of r new h live) ∙ whose-places r new h c)
      ∙ body-as disk h stage c ((order-facts h o).running live).terms.parent

  agreed-as : (disk : List ℕ) (h : Host) (stage : List ℕ) (named : Pair) → h.program.active ≡ true → in_order h ≡ true
      → agreed disk (host_as r h) stage named ≡ closed_as (agreed disk h stage named)
  unfolding agreed_by
  agreed-as disk h stage named live o =
      down closed_as _ _ _ _ _ _ (ap₂ same_pair (pair-as disk h stage live) (start-as disk h live)) (λ _. given-up-as 0 disk h) (λ _.
      down closed_as _ _ _ _ _ _ (ap (same_pair named) (pair-as disk h stage live)) (λ _. commit-as disk h stage live o)
      (λ _. given-up-as 14 disk h))

  pub close-as : (disk : List ℕ) (h : Host) (stage : List ℕ) (agree : Bool) (size : ℕ) (root : List ℕ)
      → close disk (host_as r h) stage agree size root ≡ closed_as (close disk h stage agree size root)
  unfolding close_by
  close-as disk h stage agree size root =
      let same = refusal-as r new h _ _ (areas-as r new h disk stage) in
      down closed_as _ _ _ _ _ _ (ap (λ (n : ℕ). not (eqb n 0)) same)
      (λ _. ap (λ (n : ℕ). closed n 0 (pos 0) (host_as r h) disk) same ∙ closed-not _ h disk) (λ e.
      let p = past h _ e in
      down closed_as _ _ _ _ _ _ refl (λ _. given-up-as 0 disk h) (λ _.
      down closed_as _ _ _ _ _ _ (ended_same h) (λ _. closed-not 13 h disk) (λ _.
      agreed-as disk h stage _ p.live p.order)))

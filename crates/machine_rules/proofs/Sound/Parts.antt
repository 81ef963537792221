-- What a sound host is: in order, the roots beside the disk's slots right, and those beside the stage's of an open program. Assumes nothing.
use Rattle.lists.proofs.Kit.{◌≡◌, ap, true, not, List, ℕ}
use Rattle.lists.specs.Tests.{every}
use Rattle.lists.proofs.Laws.Pick.{by, picks, both_left, both_right, both-join, second-not, or_right}
use Rattle.host.specs.Places.{taken}
use Rattle.machine_rules.specs.View.{turn_of, areas_right, setting_of, volume_by, volume_of}
use Rattle.machine_rules.specs.Facts.{Good, Solid}
use Rattle.machine_rules.specs.Sound.{right, staged_right, roots_right, sound}
use Rattle.machine_rules.specs.Visit.{Areas, Sound}
use Rattle.machine_rules.proofs.Laws.Taking.{order-solid, order-good}
use Rattle.machine_rules.proofs.Laws.Readers.{Known}
use Rattle.host.specs.Order.{in_order}
use Rattle.host.specs.declared.Host.{Host}

module _ (disk : List ℕ) (h : Host) (stage : List ℕ) where
  pub sound-order : sound disk h stage ≡ true → in_order h ≡ true
  unfolding sound
  sound-order e = both_left _ _ e

  pub sound-disk : sound disk h stage ≡ true → every (right h.sector disk h.diskroots) (taken h.sector h.places) ≡ true
  unfolding sound roots_right
  sound-disk e = both_left _ _ (both_right _ _ e)

  pub sound-stage : sound disk h stage ≡ true → h.program.active ≡ true
      → staged_right h.sector stage h.stageroots h.program.progress.staged ≡ true
  unfolding sound roots_right
  sound-stage e live = second-not h.program.active _ (both_right _ _ (both_right _ _ e)) live

  pub is-sound : in_order h ≡ true → every (right h.sector disk h.diskroots) (taken h.sector h.places) ≡ true
      → (h.program.active ≡ true → staged_right h.sector stage h.stageroots h.program.progress.staged ≡ true) → sound disk h stage ≡ true
  unfolding sound roots_right
  is-sound o d f =
      both-join _ _ o (both-join _ _ d (by h.program.active (λ u. or_right _ _ (f u)) (λ u. picks (not h.program.active) true _ (ap not u))))

-- ---- what instructions on it start from

module _ (h : Host) (a : Areas) (s : Sound h a.disk a.stage) where
  pub order : in_order h ≡ true
  order = sound-order a.disk h a.stage s.right

  pub start-good : h.program.active ≡ true → Good (setting_of h) h.program.progress
  start-good live = order-good h order live s.declared.staged

  pub start-solid : areas_right h a.disk a.stage ≡ true → Solid (setting_of h) (volume_of h a.disk)
  start-solid areas = order-solid h a.disk a.stage order areas

  pub start-known : h.program.active ≡ true → Known (setting_of h) (volume_of h a.disk) (turn_of h a.stage a.output)
  unfolding volume_by turn_of
  start-known live = record {
    disk = sound-disk a.disk h a.stage s.right;
    stage = sound-stage a.disk h a.stage s.right live;
    kept = s.declared.stage;
    shaped = s.declared.places;
  }

-- The look-up by root on a sound host: the kept roots find what roots worked out from the bytes find. Assumes nothing.
use Rattle.lists.proofs.Kit.{◌≡◌, sym, ap, ◌∙◌, true, not, List, [], ◌∷◌, ℕ, ◌*◌}
use Rattle.lists.specs.Pick.{pick}
use Rattle.lists.specs.Tests.{every}
use Rattle.lists.proofs.Laws.Pick.{by, picks, skips, both_left}
use Rattle.lists.proofs.Laws.Every.{every-none}
use Rattle.area.specs.Area.{zeros}
use Rattle.area.proofs.Laws.Same.{same-eq}
use Rattle.tree.specs.Tree as Tree
use Rattle.host.specs.Places.{taken}
use Rattle.host.specs.Order.{in_order}
use Rattle.machine_rules.specs.View.{Way, kept, worked, read_only_mode, sector, parent, parent_spots, setting_of, volume_by, volume_of}
use Rattle.machine_rules.specs.Roots.{sector_root, root_by, root_of}
use Rattle.machine_rules.specs.Seats.{nobody, all_seats, seats_of, seats_in, not_located, located_at, located_by}
use Rattle.machine_rules.specs.Plan.{Source, seen, spots, sector_source}
use Rattle.machine_rules.specs.Visit.{Sound}
use Rattle.machine_rules.proofs.Laws.Found.{source-root}
use Rattle.machine_rules.proofs.Laws.Spots.{seats-every, program-every, sought-every}
use Rattle.machine_rules.proofs.Laws.Readers.{agree, first-agree, all-parent, with_way, known-disk, known-stage}
use Rattle.machine_rules.proofs.Laws.Taking.{blank-right, order-solid, order-good}
use Rattle.machine_rules.proofs.Laws.Copies.{few-sectors}
use Rattle.machine_rules.proofs.Sound.Parts.{sound-order, sound-disk, sound-stage}
use Rattle.host.specs.declared.Host.{Host}
use Rattle.machine_rules.specs.declared.Spot.{Spot}
use Rattle.machine_rules.specs.declared.Spot.TheVariants.{OnDisk}
use Rattle.std.specs.Prelude.{Option}
use Rattle.machine_rules.specs.declared.Seat.{Seat}

module _ (h : Host) (disk stage : List ℕ) (s : Sound h disk stage) where
  abbrev z : ℕ
  z = h.sector

  abbrev roots_by : Way → Spot → List ℕ
  roots_by way = root_of (setting_of h) (volume_by way h disk) stage h.stageroots

  o : in_order h ≡ true
  o = sound-order disk h stage s.right

  disk-known : every (λ n. agree (roots_by kept) (roots_by worked) (OnDisk n)) (taken z h.places) ≡ true
  unfolding volume_by with_way
  disk-known = known-disk (setting_of h) (volume_of h disk) stage h.stageroots (sound-disk disk h stage s.right)

  module _ (live : h.program.active ≡ true) where
    -- what holds of all sectors in use holds of those that the program sees
    pub parent-known : every (agree (roots_by kept) (roots_by worked)) (parent_spots (setting_of h) h.program.progress) ≡ true
    unfolding volume_by with_way parent_spots parent
    parent-known =
        let blank = zeros (h.disk * h.sector) in
        let solid = order-solid h blank (zeros (h.stage * h.sector)) o (blank-right h) in
        let good = order-good h o live s.declared.staged in
        all-parent (setting_of h) (volume_of h blank) h.program.progress solid good.orderly.staged
        (few-sectors (setting_of h) h.program.progress solid.lent good) good.entries s.declared.places _ disk-known
        (known-stage (setting_of h) (volume_of h disk) stage h.stageroots h.program.progress.staged (sound-stage disk h stage s.right live))

    program-known : every (λ x. agree (roots_by kept) (roots_by worked) x.spot) (seats_of (setting_of h) h.program.progress) ≡ true
    unfolding volume_by
    program-known = program-every (agree (roots_by kept) (roots_by worked)) (setting_of h) h.program.progress parent-known disk-known

    -- the sector that is read has that root, worked out from its bytes
    pub read-bytes : (key : List ℕ) (x : Spot) → sector_source (setting_of h) (roots_by kept) h.program.progress key ≡ seen (x ∷ [])
        → Tree.root (sector z disk stage x) ≡ key
    unfolding sector_source volume_by seats_of read_only_mode parent_spots parent every spots agree root_of root_by sector_root
    read-bytes key x e =
        let all = sought-every (agree (roots_by kept) (roots_by worked)) (roots_by kept) key (seats_of (setting_of h) h.program.progress) program-known in
        let one = both_left _ _ (sym (ap (λ (from : Source). every (agree (roots_by kept) (roots_by worked)) (spots from)) e) ∙ all) in
        sym (same-eq _ _ one) ∙ source-root (setting_of h) (roots_by kept) h.program.progress key x e

  seats-known : every (λ x. agree (roots_by kept) (roots_by worked) x.spot) (seats_in h) ≡ true
  unfolding seats_in
  seats-known =
      by h.program.active
      (λ e. ap (every (λ x. agree (roots_by kept) (roots_by worked) x.spot)) (picks h.program.active _ (all_seats z h.places) e) ∙ program-known e)
      (λ e. ap (every (λ x. agree (roots_by kept) (roots_by worked) x.spot)) (skips h.program.active _ (all_seats z h.places) e)
      ∙ seats-every (agree (roots_by kept) (roots_by worked)) z nobody [] h.places (every-none _) disk-known)

  pub located-alike : (key : List ℕ) → located_by kept disk h stage key ≡ located_by worked disk h stage key
  unfolding located_by
  located-alike key =
      ap (λ (r : Option Seat). pick (not (in_order h)) (not_located 1) (located_at r))
      (first-agree (roots_by kept) (roots_by worked) key (seats_in h) seats-known)

-- What a host in order gives the look-up, with a program and with none, and that it looks through what the call is to. Assumes nothing.
use Rattle.lists.proofs.Kit.{◌≡◌, sym, true, false, ◌*◌, length}
use Rattle.lists.specs.Pick.{pick}
use Rattle.lists.proofs.Laws.Pick.{picks, skips}
use Rattle.area.specs.Area.{same, zeros}
use Rattle.sia.specs.Names.{read_only}
use Rattle.host.specs.Places.{has_id}
use Rattle.host.specs.Order.{in_order}
use Rattle.machine_rules.specs.View.{Volume, read_only_mode, parent, parent_spots, setting_of, volume_by, volume_of}
use Rattle.machine_rules.specs.Facts.{Solid}
use Rattle.machine_rules.specs.Seats.{seats, all_seats, seats_of, seats_in}
use Rattle.machine_rules.proofs.Laws.Taking.{blank-right, order-solid, order-good}
use Rattle.machine_sight.specs.Lookup.{own_spots, Stand, Seeks}
use Rattle.machine_sight.proofs.Looks.{all-stand, program-seeks}
use Rattle.host.specs.declared.Host.{Host}

module _ (h : Host) (o : in_order h ≡ true) where
  -- kept roots look at no byte, so that areas of zeros will do
  abbrev blank : Volume
  blank = volume_of h (zeros (h.disk * h.sector))

  module _ (d : length h.diskroots ≡ 2048) where
    stands : Solid (setting_of h) blank
    stands = order-solid h _ (zeros (h.stage * h.sector)) o (blank-right h)

    pub stand : Stand h.sector h.diskroots h.places
    unfolding volume_by
    stand = all-stand (setting_of h) blank h.diskroots stands d

    pub seeks-program : length h.stageroots ≡ 512 → h.program.active ≡ true → length h.program.progress.staged ≡ 64
        → let g = h.program in
        Seeks h.sector h.diskroots h.stageroots h.places g.terms.head.contract g.progress.staged g.progress.size
    unfolding volume_by
    seeks-program e live long =
        program-seeks (setting_of h) blank h.diskroots stands d h.stageroots e h.program.progress (order-good h o live long)

-- with no program, all committed sectors
pub closed-seats : (h : Host) → h.program.active ≡ false → all_seats h.sector h.places ≡ seats_in h
unfolding seats_in
closed-seats h e = sym (skips h.program.active _ (all_seats h.sector h.places) e)

-- of an open program, what it looks through
pub program-seats : (h : Host) → h.program.active ≡ true
    → let g = h.program in
    let id = g.terms.head.contract in
    pick (same id read_only) (all_seats h.sector h.places)
    (seats h.sector (has_id id) (own_spots h.sector h.places id g.progress.staged g.progress.size) h.places)
    ≡ seats_in h
unfolding seats_in seats_of read_only_mode volume_by parent_spots parent
program-seats h e = sym (picks h.program.active _ (all_seats h.sector h.places) e)

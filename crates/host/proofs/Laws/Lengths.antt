-- The lengths of the arrays in declared structs, from what a function is told of a parameter. Assumes nothing.
use Rattle.lists.proofs.Kit.{◌≡◌, List, length}
use mir.Val.{Val}
use denote.Laws.{Is}
use denote.Struct.Declared.{row}
use Rattle.host.specs.declared.Place.{Place}
use Rattle.host.specs.declared.slots.Slots.{Slots}
use Rattle.host.specs.declared.Host.{Host}
use Rattle.host.specs.contracts.Host as host
use Rattle.host.specs.contracts.Place as place
use Rattle.host.specs.contracts.slots.Slots as slots

-- 64 entries for slots
pub placed : (p : Place) (vs : List Val) → Is (row place.the_type) p vs → length p.slots ≡ 64
placed p vs g = g.1.1.1.1.1.0.1.0.1

-- 512 items
pub listing : (s : Slots) (vs : List Val) → Is (row slots.the_type) s vs → length s.items ≡ 512
listing s vs g = g.1.1.1.0.1.0.1

-- a field that is a struct has the same facts one level in: 64 entries for staged positions
pub hosted : (h : Host) (vs : List Val) → Is (row host.the_type) h vs → length h.program.progress.staged ≡ 64
hosted h vs g =
    let program = g.1.1.1.1.1.1.0 in
    let progress = program.1.1.1.1.1.0 in
    progress.1.1.1.1.1.1.1.0.1.0.1

-- 32 bytes for each slot: of the disk, 64 slots; of the stage, 16
pub disk-rooted : (h : Host) (vs : List Val) → Is (row host.the_type) h vs → length h.diskroots ≡ 2048
disk-rooted h vs g = g.1.1.1.1.1.1.1.0.1.0.1

pub stage-rooted : (h : Host) (vs : List Val) → Is (row host.the_type) h vs → length h.stageroots ≡ 512
stage-rooted h vs g = g.1.1.1.1.1.1.1.1.0.1.0.1

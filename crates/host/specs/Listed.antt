-- The slots that an array lists. Assumes nothing.
use Rattle.std.specs.Prelude.{List, ℕ, take}
use Rattle.host.specs.declared.slots.Slots.{Slots}

abbrev pub listed : Slots → List ℕ
listed s = take s.count s.items

-- What an instruction that can run does to the stage. z is the sector size. Assumes nothing.
use Rattle.std.specs.Prelude.{List, [], ◌∷◌, ℕ, ◌+◌, ◌*◌, ◌/◌, ◌%◌, get_or, set, ltb, eqb}
use Rattle.lists.specs.Pick.{pick}
use Rattle.area.specs.Area.{part, put, zeros}
use Rattle.tree.specs.Tree.{root}
use Rattle.host.specs.Empty.{none}
use Rattle.host.specs.Places.{free_copy}
use Rattle.machine_rules.specs.View.{Volume, sector, parent, spot_of}
use Rattle.machine_rules.specs.declared.Setting.{Setting}
use Rattle.machine_rules.specs.declared.Args.{Args}
use Rattle.sia.specs.declared.Op.{Op}
use Rattle.sia.specs.declared.Op.TheVariants.{Read, ReadSector, Write, Copy, Swap, Truncate, Unknown}

-- what an effect looks at besides: how many stage slots there are, the disk slots of the parent, the disk's bytes
pub record Ground : Type 0 where
  pub copies : ℕ
  pub slots : List ℕ
  pub disk : List ℕ

abbrev pub ground_of : Setting → Volume → Ground
ground_of s vol = record { copies = s.stagesectors; slots = (parent s).slots; disk = vol.disk }

-- which stage slot holds which position, and the stage's bytes
pub record Staging : Type 0 where
  pub staged : List ℕ
  pub bytes : List ℕ

-- position `at` in the lowest free slot, with these bytes
unfoldable pub new_copy : ℕ → Ground → ℕ → List ℕ → Staging → Staging
new_copy z e at bs g =
    let slot = free_copy e.copies g.staged in
    record { staged = set g.staged at slot; bytes = put g.bytes (slot * z) bs }

-- the bytes of the parent's sector at a position
unfoldable pub sector_at : ℕ → Ground → ℕ → Staging → List ℕ
sector_at z e at g = sector z e.disk g.bytes (spot_of e.slots g.staged at)

-- "A sector written to, even with equal bytes, gets a stage copy unless it has one"
unfoldable pub copied : ℕ → Ground → ℕ → Staging → Staging
copied z e at g =
    let new = new_copy z e at (sector_at z e at g) g in
    pick (eqb (get_or g.staged at none) none) new g

-- n bytes of the parent from `at` on, within one sector
unfoldable pub span_read : ℕ → Ground → ℕ → ℕ → Staging → List ℕ
span_read z e at n g = part (sector_at z e (at / z) g) (at % z) n

-- bytes over the parent's from `at` on, within one sector that has a copy
unfoldable pub laid : ℕ → ℕ → List ℕ → Staging → Staging
laid z at bs g = record { staged = g.staged; bytes = put g.bytes (get_or g.staged (at / z) none * z + at % z) bs }

unfoldable pub span_written : ℕ → Ground → ℕ → List ℕ → Staging → Staging
span_written z e at bs g = laid z at bs (copied z e (at / z) g)

-- "Growth stages zeros. Shrinking frees the dropped position's stage copy at once."
unfoldable pub resized : ℕ → Ground → ℕ → ℕ → Staging → Staging
resized z e size new g =
    let more = new_copy z e (size / z) (zeros z) g in
    let less : Staging = record { staged = set g.staged (new / z) none; bytes = g.bytes } in
    pick (ltb size new) more (pick (ltb new size) less g)

-- "Copy reads the whole source first. Swap reads both spans, writes the first at offset 2, then the second at offset 1."
unfoldable pub effect : ℕ → Ground → ℕ → Op → Args → List ℕ → Staging → Staging
effect z e size Read a d g = g
effect z e size ReadSector a d g = g
effect z e size Write a d g = span_written z e a.first d g
effect z e size Copy a d g = span_written z e a.first (span_read z e a.second a.len g) g
effect z e size Swap a d g =
    span_written z e a.first (span_read z e a.second a.len g)
    (span_written z e a.second (span_read z e a.first a.len g) g)
effect z e size Truncate a d g = resized z e size a.first g
effect z e size Unknown a d g = g

-- the roots kept beside the stage's slots after it: beside the slot of each position that was written to, the root of the sector's bytes now
unfoldable pub rehashed : ℕ → Staging → List ℕ → List ℕ → List ℕ
rehashed z g [] roots = roots
rehashed z g (at ∷ l) roots =
    put (rehashed z g l roots) (get_or g.staged at none * 32) (root (part g.bytes (get_or g.staged at none * z) z))

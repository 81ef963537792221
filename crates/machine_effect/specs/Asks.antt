-- What effects ask of their callers. z is the sector size. Assumes nothing.
use Rattle.std.specs.Prelude.{◌≡◌, Bool, true, ℕ, ◌+◌, ◌*◌, ◌/◌, ◌%◌, ◌≤◌, ◌<◌, length, get_or, eqb}
use Rattle.lists.specs.Tests.{every, count, unused}
use Rattle.area.specs.Slots.{Size}
use Rattle.host.specs.Empty.{none}
use Rattle.host.specs.Order.{slot_in_order}
use Rattle.machine_rules.specs.declared.Args.{Args}
use Rattle.machine_rules.specs.Effect.{Ground, Staging, copied}
use Rattle.sia.specs.declared.Op.{Op}
use Rattle.sia.specs.declared.Op.TheVariants.{Write, Copy, Swap, Truncate}

-- a position that has no copy in the stage
unfoldable pub bare : ℕ → Staging → Bool
bare at g = eqb (get_or g.staged at none) none

-- sectors have a size that there is, the stage is as long as its slots, and each staged position lies in one of them
pub record Lent (z : ℕ) (e : Ground) (g : Staging) : Type 0 where
  pub size : Size z
  pub few : e.copies ≤ 16
  pub long : length g.bytes ≡ e.copies * z
  pub slots : every (slot_in_order e.copies) g.staged ≡ true

-- a slot of the stage is free
abbrev pub Free : Ground → Staging → Type 0
Free e g = 0 < count (unused g.staged) 0 e.copies

-- a position that there is an entry for; where it has no copy, its sector lies within the disk
pub record Lies (z : ℕ) (e : Ground) (g : Staging) (p : ℕ) : Type 0 where
  pub entry : p < 64
  pub there : bare p g ≡ true → get_or e.slots p 0 * z + z ≤ length e.disk

-- one that can have a copy
pub record Room (z : ℕ) (e : Ground) (g : Staging) (p : ℕ) : Type 0 where
  pub lies : Lies z e g p
  pub free : bare p g ≡ true → Free e g

-- n bytes from `at` on, within one sector, can be read
pub record From (z : ℕ) (e : Ground) (g : Staging) (at n : ℕ) : Type 0 where
  pub lies : Lies z e g (at / z)
  pub within : at % z + n ≤ z

-- and written over
pub record Over (z : ℕ) (e : Ground) (g : Staging) (at n : ℕ) : Type 0 where
  pub room : Room z e g (at / z)
  pub within : at % z + n ≤ z

-- two spans can be exchanged: there are slots for both, the second's taken first
pub record Two (z : ℕ) (e : Ground) (g : Staging) (one two n : ℕ) : Type 0 where
  pub second : Over z e g two n
  pub first : Over z e (copied z e (two / z) g) one n

-- the size can become a new one: there is an entry for the sector that is added or dropped, and a free slot for one added
pub record Sized (z : ℕ) (e : Ground) (g : Staging) (size new : ℕ) : Type 0 where
  pub more : size < new → size / z < 64
  pub less : new < size → new / z < 64
  pub free : size < new → Free e g

-- what each instruction asks
pub record Stands (z : ℕ) (e : Ground) (size : ℕ) (op : Op) (a : Args) (g : Staging) : Type 0 where
  pub lent : Lent z e g
  pub write : op ≡ Write → Over z e g a.first a.len
  pub copy : op ≡ Copy → Over z e g a.first a.len
  pub source : op ≡ Copy → From z e g a.second a.len
  pub swap : op ≡ Swap → Two z e g a.first a.second a.len
  pub truncate : op ≡ Truncate → Sized z e g size a.first

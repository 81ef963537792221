-- "Full sectors.": "The sector size becomes a number fixed when the host is made". Assumes nothing.
use Rattle.std.specs.Prelude.{◌≡◌, true, false, List, ℕ, ◌*◌, ◌^◌, ◌≤◌}
use Rattle.area.specs.Slots.{Size}
use Rattle.host.specs.Sizes.{is_size}
use Rattle.host.specs.Empty.{bare}
use Rattle.host.specs.Calls as Contract
use Rattle.host.specs.Calls.{freshed, formed, dropped}
use Rattle.machine_rules.specs.Visit.{Areas, Opening, Agreement, opens, gives, stops, closes}
use Rattle.machine_rules.specs.Outcome.{Refused}
use Rattle.host.specs.declared.Host.{Host}

-- "any power of two from 4,096 to 4,194,304", and no other number
pub record Sizes (z : ℕ) : Type 0 where
  pub power : (d : ℕ) → z ≡ 2 ^ d → 4096 ≤ z → z ≤ 4194304 → is_size z ≡ true
  pub only : is_size z ≡ true → Size z

-- no call changes the size: it is the one that the host was made with
pub record Fixed (h : Host) (a : Areas) : Type 0 where
  pub forming : (id : List ℕ) → (formed h id).host.sector ≡ h.sector
  pub dropping : (id : List ℕ) → (dropped h id).host.sector ≡ h.sector
  pub opening : (o : Opening) → (opens h o).host.sector ≡ h.sector
  pub piece : (bytes : List ℕ) → (gives h a bytes).host.sector ≡ h.sector
  pub interrupt : (stops h a).host.sector ≡ h.sector
  pub closing : (g : Agreement) → (closes h a g).host.sector ≡ h.sector

pub record FullSectors : Type 0 where
  pub sizes : (z : ℕ) → Sizes z
  -- "else 2", whatever the lengths: the whole answer, a host of sector size 0 with no slots
  pub other : (z disk stage : ℕ) → is_size z ≡ false → freshed z disk stage ≡ Contract.answered 2 (bare 0 0 0)
  -- and the same for every host that is refused, for its size or for a length
  pub refused : (z disk stage : ℕ) → ((freshed z disk stage).number ≡ 0 → ⊥) → freshed z disk stage ≡ Contract.answered 2 (bare 0 0 0)
  -- no size is refused that there is: whole sectors within the limits are taken, and the host has so many of that size
  pub taken : (z disk stage : ℕ) → is_size z ≡ true → 1 ≤ disk → disk ≤ 64 → 1 ≤ stage → stage ≤ 16
      → freshed z (disk * z) (stage * z) ≡ Contract.answered 0 (bare z disk stage)
  -- a host that is made holds the size that was asked for
  pub made : (z disk stage : ℕ) → (freshed z disk stage).number ≡ 0 → (freshed z disk stage).host.sector ≡ z
  -- "a host holding another is not in order", so every call answers 1
  pub holding : (h : Host) (a : Areas) → is_size h.sector ≡ false → Refused h a
  pub fixed : (h : Host) (a : Areas) → Fixed h a

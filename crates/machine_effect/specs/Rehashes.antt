-- What rehashing asks of its callers. z is the sector size. Assumes nothing.
use Rattle.std.specs.Prelude.{◌≡◌, List, [], ◌∷◌, ℕ, ◌+◌, ◌*◌, ◌/◌, ◌≤◌, ◌<◌, length, get_or}
use Rattle.area.specs.Area.{part, zeros}
use Rattle.area.specs.Slots.{Size}
use Rattle.host.specs.Empty.{none}
use Rattle.machine_rules.specs.declared.Args.{Args}
use Rattle.machine_rules.specs.Plan.{touched}
use Rattle.machine_rules.specs.Effect.{Staging}
use Rattle.sia.specs.declared.Op.{Op}
use Rattle.sia.specs.declared.Op.TheVariants.{Truncate}

-- a position that there is an entry for, with a root kept beside its slot
pub record Near (staged roots : List ℕ) (at : ℕ) : Type 0 where
  pub entry : at < 64
  pub kept : get_or staged at none * 32 + 32 ≤ length roots

-- and the slot lies within the stage
pub record Beside (z : ℕ) (g : Staging) (roots : List ℕ) (at : ℕ) : Type 0 where
  pub near : Near g.staged roots at
  pub lies : get_or g.staged at none * z + z ≤ length g.bytes

-- a fact of each of some positions
abbrev pub Each : (ℕ → Type 0) → List ℕ → Type 0
Each P [] = Unit {0}
Each P (at ∷ l) = P at × Each P l

-- sectors have a size that there is; each position that the instruction wrote to is such a one; and a sector that growth added is zeros
pub record Rehashes (z size : ℕ) (op : Op) (a : Args) (g : Staging) (roots : List ℕ) : Type 0 where
  pub whole : Size z
  pub each : Each (Beside z g roots) (touched z size op a)
  pub new : op ≡ Truncate → size < a.first → part g.bytes (get_or g.staged (size / z) none * z) z ≡ zeros z

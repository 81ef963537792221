-- What code and proofs rely on while instructions run, as facts with names. z is the sector size. Assumes nothing.
use Rattle.std.specs.Prelude.{◌≡◌, Bool, true, ℕ, ◌+◌, ◌*◌, ◌/◌, ◌%◌, ◌≤◌, ◌<◌, length, ltb}
use Rattle.lists.specs.Tests.{every}
use Rattle.area.specs.Slots.{Size}
use Rattle.host.specs.Places.{whose, taken}
use Rattle.host.specs.Order.{place_in_order, terms_in_order}
use Rattle.host.specs.Facts.{Orderly}
use Rattle.machine_rules.specs.View.{Volume}
use Rattle.machine_rules.specs.declared.Setting.{Setting}
use Rattle.host.specs.declared.Progress.{Progress}
use Rattle.machine_rules.specs.declared.Spot.{Spot}
use Rattle.machine_rules.specs.declared.Spot.TheVariants.{OnDisk, InStage}

-- a slot that there is
unfoldable pub valid : Setting → Spot → Bool
valid s (OnDisk n) = ltb n s.disksectors
valid s (InStage n) = ltb n s.stagesectors

-- the parent's sectors as committed
abbrev pub start_of : Setting → ℕ
start_of s = (whose s.terms.head.contract s.places).size / s.sector

-- what instructions change, in order
abbrev pub InOrder : Setting → Progress → Type 0
InOrder s p = Orderly s.sector s.disksectors s.stagesectors s.places s.terms p

-- the areas' numbers that a host in order has
pub record Lent (s : Setting) : Type 0 where
  pub size : Size s.sector
  pub few : s.stagesectors ≤ 16
  pub most : s.disksectors ≤ 64

-- progress in order under terms in order, with a staged of 64 entries
pub record Good (s : Setting) (p : Progress) : Type 0 where
  pub orderly : InOrder s p
  pub terms : terms_in_order s.places s.terms p.size ≡ true
  pub entries : length p.staged ≡ 64

-- what a setting of a host in order has, besides `Lent`
pub record Solid (s : Setting) (vol : Volume) : Type 0 where
  pub lent : Lent s
  pub one : 0 < s.disksectors
  pub slots : every (λ n. ltb n s.disksectors) (taken s.sector s.places) ≡ true
  pub small : every (place_in_order s.sector) s.places ≡ true
  pub disk : length vol.disk ≡ s.disksectors * s.sector

-- a range of whole segments within one of m sectors
pub record Within (z m at n : ℕ) : Type 0 where
  pub below : at / z < m
  pub one : at % z + n ≤ z
  pub some : 0 < n
  pub first : at % 64 ≡ 0
  pub many : n % 64 ≡ 0

-- "No padded short ids.": which ids these are, and where forming answers 15. Assumes nothing.
use Rattle.std.specs.Prelude.{◌≡◌, true, false, List, ℕ, ◌≤◌, ◌<◌, length, get_or}
use Rattle.host.specs.Order.{in_order}
use Rattle.host.specs.Calls.{answered, padded, formed}
use Rattle.host.specs.declared.Host.{Host}

-- an id is padded exactly where its bytes 4 to 31 are all zero
pub record Padding (id : List ℕ) : Type 0 where
  pub zeros : padded id ≡ true → (i : ℕ) → 4 ≤ i → get_or id i 0 ≡ 0
  pub enough : length id ≡ 32 → ((i : ℕ) → 4 ≤ i → i < 32 → get_or id i 0 ≡ 0) → padded id ≡ true

-- 15 is answered exactly where the id is padded and neither 1 nor 3 applies: so before 6 and 8
pub record Fifteen (h : Host) (id : List ℕ) : Type 0 where
  pub refused : padded id ≡ true → in_order h ≡ true → h.program.active ≡ false → formed h id ≡ answered 15 h
  pub only : (formed h id).number ≡ 15 → (padded id ≡ true) × (in_order h ≡ true) × (h.program.active ≡ false)

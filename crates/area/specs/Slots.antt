-- Sizes of sectors. Assumes nothing.
use Rattle.std.specs.Prelude.{◌≡◌, ℕ, ◌*◌, ◌^◌, ◌≤◌}

-- "a power of two from 4,096 to 4,194,304": 2 ^ depth segments of 64 bytes
pub record Size (z : ℕ) : Type 0 where
  pub depth : ℕ
  pub deep : depth ≤ 16
  pub segments : z ≡ 64 * 2 ^ depth
  pub least : 4096 ≤ z
  pub most : z ≤ 4194304

-- What reading leaves in an area. No contract can say which bytes a read brings: some came. Assumes nothing.
use Rattle.std.specs.Prelude.{◌≡◌, Bool, not, List, ℕ, ◌≤◌, length, take, ltb}
use Rattle.lists.specs.Pick.{both, either}
use Rattle.area.specs.Little.{Bytes}
use Rattle.bench_input.specs.Reader.{State, fed, full}
use Rattle.bench_input.specs.Kept.{keep}
use Rattle.bench_input.specs.declared.Reader.{Reader}

-- whether to read on: bytes may come, and either one of them may be kept or another input follows
unfoldable pub reads_on : ℕ → Bool → Reader → Bool
reads_on left follows r = both (ltb 0 left) (either follows (not (full r)))

-- a piece came, and leads from one state to the next
pub record Feeds (s t : State) : Type 0 where
  pub piece : List ℕ
  pub bytes : Bytes piece
  pub leads : t ≡ fed s piece

-- an input came, and the first n bytes of an area are what is kept of it
pub record Gathered (area : List ℕ) (n : ℕ) : Type 0 where
  pub came : List ℕ
  pub keeps : take n area ≡ keep came
  pub within : n ≤ length area

-- What is kept of an input, and the statements, proved in proofs/Theorems, that it is enough and that the reader keeps it. z is the sector
-- size. Assumes nothing.
use Rattle.std.specs.Prelude.{◌≡◌, Bool, true, List, [], ◌++◌, ℕ, ◌+◌, ◌*◌, ◌≤◌, min, length, take, ltb}
use Rattle.lists.specs.Pick.{pick, either}
use Rattle.area.specs.Area.{part, zeros}
use Rattle.area.specs.Little.{le8, Bytes}
use Rattle.bench_program.specs.Single.{spoken}
use Rattle.bench_program.specs.Input.{number_at, ids_end, data_bytes, cut_short, answered}
use Rattle.bench_input.specs.Reader.{whole, read_all, full, holds}

-- how many ids are kept, how many bytes of head, and which data
unfoldable pub ids_kept : List ℕ → ℕ
ids_kept all = min (number_at all 72) 9

unfoldable pub head_kept : List ℕ → ℕ
head_kept all = min (number_at all (ids_end all)) 2897

unfoldable pub data_kept : List ℕ → List ℕ
data_kept all = take 65537 (data_bytes all)

-- the same input with at most nine ids, 2,897 bytes of head and 65,537 bytes of data
unfoldable pub kept : List ℕ → List ℕ
kept all =
    take 72 all ++ (le8 (ids_kept all) ++ (part all 80 (ids_kept all * 32)
    ++ (le8 (head_kept all) ++ (part all (ids_end all + 8) (head_kept all) ++ data_kept all))))

-- "bytes ahead of the data are missing"
unfoldable pub missing : List ℕ → Bool
missing all = either (ltb (length all) 80) (cut_short all)

-- what is kept of any input: nothing where bytes are missing
unfoldable pub keep : List ℕ → List ℕ
keep all = pick (missing all) [] (kept all)

-- what is written out of an input played on fresh areas of disk and stage of these lengths, and on this output area
unfoldable pub outcome : ℕ → ℕ → ℕ → List ℕ → List ℕ → List ℕ
outcome z disk stage all output = spoken (answered z all (zeros disk) (zeros stage) (zeros 65536) output)

pub record Kept : Type 0 where
  -- what is kept is answered as the whole, and leaves the same host and areas
  pub answers : (z : ℕ) (all disk stage input output : List ℕ) → answered z (keep all) disk stage input output ≡ answered z all disk stage input output
  pub short : (all : List ℕ) → length (keep all) ≤ 68810
  -- the reader keeps it, wherever the input is cut into reads
  pub reads : (area : List ℕ) (pieces : List (List ℕ)) → length area ≡ 68810 → Bytes (whole pieces) → holds (read_all area pieces) ≡ keep (whole pieces)
  -- a reader that is full has it already, whatever follows
  pub stops : (area : List ℕ) (pieces : List (List ℕ)) (rest : List ℕ) → length area ≡ 68810 → Bytes (whole pieces ++ rest)
      → full (read_all area pieces).reader ≡ true → holds (read_all area pieces) ≡ keep (whole pieces ++ rest)

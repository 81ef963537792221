-- One program from a fresh host to its close, as it is exported: its number, and what it leaves in the areas. z is the sector size of the
-- host that is made. Assumes nothing.
use Rattle.std.specs.Prelude.{not, List, ℕ, length, eqb}
use Rattle.lists.specs.Pick.{pick}
use Rattle.area.specs.Little.{le8}
use Rattle.bench_program.specs.Single.{Ran, run}
use Rattle.host.specs.declared.Prices.{Prices}

-- the number, the four areas, and the area that takes how many bytes of the output area are records
pub record Shown : Type 0 where
  pub number : ℕ
  pub disk : List ℕ
  pub stage : List ℕ
  pub input : List ℕ
  pub output : List ℕ
  pub count : List ℕ

abbrev pub shown : ℕ → List ℕ → List ℕ → List ℕ → List ℕ → List ℕ → Shown
shown n disk stage input output count =
    record { number = n; disk = disk; stage = stage; input = input; output = output; count = count }

-- of what a program came to, the count of its records' bytes in 8 bytes
abbrev pub told : Ran → Shown
told r = shown r.number r.disk r.stage r.input r.output (le8 r.written)

-- the prices, in the order of the bench line
abbrev pub priced : ℕ → ℕ → ℕ → ℕ → ℕ → ℕ → ℕ → Prices
priced init memory readbase readlength writebase writelength truncatebase = record {
  init = init;
  memory = memory;
  readbase = readbase;
  readlength = readlength;
  writebase = writebase;
  writelength = writelength;
  truncatebase = truncatebase;
}

-- 2 for an area of another length than 8, and all is as it was
unfoldable pub played : ℕ → Prices → ℕ → List ℕ → List ℕ → List ℕ → List ℕ → List ℕ → List ℕ → List ℕ → List ℕ → Shown
played z prices budget ids head bytes disk stage input output count =
    let done = told (run z prices budget ids head bytes disk stage input output) in
    pick (not (eqb (length count) 8)) (shown 2 disk stage input output count) done

-- The whole input in its bytes: "the price count 7, prices in the order above, budget, contract count (8-byte numbers) and ids, head
-- length, head, data to the end". z is the sector size of the host that is made. Assumes nothing.
use Rattle.std.specs.Prelude.{Bool, not, List, ℕ, ◌+◌, ◌*◌, length, drop, leb, ltb, eqb}
use Rattle.lists.specs.Pick.{pick, either}
use Rattle.lists.specs.Tests.{every}
use Rattle.lists.specs.Tab.{tab}
use Rattle.area.specs.Area.{part}
use Rattle.area.specs.Little.{value_of}
use Rattle.host.specs.Calls.{freshed}
use Rattle.host.specs.declared.Prices.{Prices}
use Rattle.bench_program.specs.Single.{Ran, ran, run}

-- ---- the sections, each from where the one ahead of it ends

-- the number that 8 bytes are
unfoldable pub number_at : List ℕ → ℕ → ℕ
number_at all at = value_of (part all at 8)

-- "Init 7, Memory 1, ReadBase 3, ReadLength 2, WriteBase 5, WriteLength 4, TruncateBase 6": "in the order above", behind their count
unfoldable pub prices_in : List ℕ → Prices
prices_in all = record {
  init = number_at all 8;
  memory = number_at all 16;
  readbase = number_at all 24;
  readlength = number_at all 32;
  writebase = number_at all 40;
  writelength = number_at all 48;
  truncatebase = number_at all 56;
}

abbrev pub budget_in : List ℕ → ℕ
budget_in all = number_at all 64

-- where the ids end that are counted at 72, and where the head ends whose length stands behind them
unfoldable pub ids_end : List ℕ → ℕ
ids_end all = 80 + number_at all 72 * 32

unfoldable pub head_end : List ℕ → ℕ
head_end all = ids_end all + 8 + number_at all (ids_end all)

unfoldable pub ids_bytes : List ℕ → List ℕ
ids_bytes all = part all 80 (number_at all 72 * 32)

unfoldable pub head_bytes : List ℕ → List ℕ
head_bytes all = part all (ids_end all + 8) (number_at all (ids_end all))

unfoldable pub data_bytes : List ℕ → List ℕ
data_bytes all = drop (head_end all) all

-- ---- "9, before all others, if bytes ahead of the data are missing, the price count differs or a price passes 65,535"

unfoldable pub prices_right : List ℕ → Bool
prices_right all = every (λ n. leb n 65535) (tab 0 7 (λ i. number_at all (8 + i * 8)))

-- ids, head length or head are missing
unfoldable pub cut_short : List ℕ → Bool
cut_short all = either (ltb (length all) (ids_end all + 8)) (ltb (length all) (head_end all))

unfoldable pub wrong : List ℕ → Bool
wrong all = either (ltb (length all) 80) (either (not (eqb (number_at all 0) 7)) (either (not (prices_right all)) (cut_short all)))

-- what the input asks for, or 9 on a fresh host with nothing touched
unfoldable pub answered : ℕ → List ℕ → List ℕ → List ℕ → List ℕ → List ℕ → Ran
answered z all disk stage input output =
    let done = run z (prices_in all) (budget_in all) (ids_bytes all) (head_bytes all) (data_bytes all) disk stage input output in
    pick (wrong all) (ran 9 0 (freshed z (length disk) (length stage)).host disk stage input output) done

-- One program from a fresh host to its close: "it forms, opens, gives the data as one piece, agrees to the pair reached (gives up after a
-- failure) and writes the records, or on a refusal .. its number in 8 bytes and nothing more". z is the sector size of the host that is made. Assumes nothing.
use Rattle.std.specs.Prelude.{not, List, [], ◌∷◌, ◌++◌, ℕ, ◌*◌, ◌/◌, length, take, drop, eqb}
use Rattle.lists.specs.Pick.{pick}
use Rattle.lists.specs.Tab.{tab}
use Rattle.area.specs.Area.{part}
use Rattle.area.specs.Little.{le8}
use Rattle.host.specs.Refusals.{number_in}
use Rattle.host.specs.Calls.{answered, freshed, formed}
use Rattle.machine_rules.specs.Calls.{opened, piece, reached}
use Rattle.machine_rules.specs.Commit.{Closed, close}
use Rattle.host.specs.declared.Prices.{Prices}
use Rattle.host.specs.declared.Host.{Host}
use Rattle.host.specs.Calls.{Made}
use Rattle.bench_program.specs.declared.Outcome.{Outcome}

-- the number, how many bytes of the output area are records to be written out, the host, and the areas as they are left
pub record Ran : Type 0 where
  pub number : ℕ
  pub written : ℕ
  pub host : Host
  pub disk : List ℕ
  pub stage : List ℕ
  pub input : List ℕ
  pub output : List ℕ

abbrev pub ran : ℕ → ℕ → Host → List ℕ → List ℕ → List ℕ → List ℕ → Ran
ran n written h disk stage input output =
    record { number = n; written = written; host = h; disk = disk; stage = stage; input = input; output = output }

-- what a call's answer and its areas at exit come to
abbrev pub leaves : Outcome → List ℕ → List ℕ → List ℕ → List ℕ → Ran
leaves r disk stage input output = ran (number_in r.refused) r.written r.host disk stage input output

-- ---- "it forms"

-- ids one behind another, 32 bytes each; bytes behind the last whole one are no id
unfoldable pub ids_in : List ℕ → List (List ℕ)
ids_in bs = tab 0 (length bs / 32) (λ i. part bs (i * 32) 32)

-- contracts formed in turn, up to the first refusal
unfoldable pub formed_in_turn : Host → List (List ℕ) → Made
formed_in_turn h [] = answered 0 h
formed_in_turn h (id ∷ ids) =
    let r = formed h id in
    let more = formed_in_turn r.host ids in
    pick (not (eqb r.number 0)) r more

-- ---- "agrees to the pair reached (gives up after a failure)"

-- what reaching refuses, closing refuses with the same number
unfoldable pub ended : List ℕ → Host → List ℕ → Closed
ended disk h stage =
    let pair = reached disk h stage in
    close disk h stage (not h.program.progress.failed) pair.size pair.root

-- "writes the records, or on a refusal .. nothing more"
unfoldable pub shown : ℕ → ℕ → ℕ
shown number written = pick (eqb number 0) written 0

-- ---- "gives the data as one piece"

-- "Pieces lend an input area of exactly the declared data length": the front part of the area, all of it where it is shorter
unfoldable pub given : Host → List ℕ → List ℕ → List ℕ → List ℕ → List ℕ → Ran
given h bytes disk stage input output =
    let n = h.program.terms.head.length in
    let r = piece disk h stage (take n input) output bytes in
    let area = r.input ++ drop n input in
    let c = ended disk r.host r.stage in
    pick (not (eqb r.number 0)) (ran r.number 0 r.host disk r.stage area r.output)
    (ran c.number (shown c.number r.host.program.progress.written) c.host c.disk r.stage area r.output)

-- ---- "opens", with the output area's length as output length

unfoldable pub begun : Host → Prices → ℕ → List ℕ → List ℕ → List ℕ → List ℕ → List ℕ → List ℕ → Ran
begun h prices budget head bytes disk stage input output =
    let r = opened h head budget prices (length output) in
    let more = given r.host bytes disk stage input output in
    pick (not (eqb r.number 0)) (ran r.number 0 r.host disk stage input output) more

-- ---- all of it, on a fresh host for the areas that are lent; the first refusal ends it

unfoldable pub run : ℕ → Prices → ℕ → List ℕ → List ℕ → List ℕ → List ℕ → List ℕ → List ℕ → List ℕ → Ran
run z prices budget ids head bytes disk stage input output =
    let f = freshed z (length disk) (length stage) in
    let r = formed_in_turn f.host (ids_in ids) in
    let more = begun r.host prices budget head bytes disk stage input output in
    pick (not (eqb f.number 0)) (ran f.number 0 f.host disk stage input output)
    (pick (not (eqb r.number 0)) (ran r.number 0 r.host disk stage input output)
    more)

-- what is written out: "the records, or on a refusal .. its number in 8 bytes"
unfoldable pub spoken : Ran → List ℕ
spoken r = pick (eqb r.number 0) (take r.written r.output) (le8 r.number)

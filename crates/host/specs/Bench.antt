-- The bench line "(P) Ids equal but for byte 31 form two contracts", on the bench's areas: disk 8 sectors, stage 4. Assumes nothing.
use Rattle.std.specs.Prelude.{List, [], ◌∷◌, ◌++◌, ℕ, length}
use Rattle.lists.specs.Tests.{those}
use Rattle.area.specs.Area.{zeros}
use Rattle.host.specs.Calls.{freshed, formed}
use Rattle.host.specs.declared.Host.{Host}

-- an id by its byte 31
abbrev pub id_of : ℕ → List ℕ
id_of n = zeros 31 ++ (n ∷ [])

-- the host of the bench
unfoldable pub bench_host : Host
bench_host = (freshed 4096 32768 16384).host

-- the numbers that two forms answer, and how many contracts there are then
unfoldable pub two_forms : List ℕ → List ℕ → List ℕ
two_forms a b =
    let one = formed bench_host a in
    let two = formed one.host b in
    one.number ∷ two.number ∷ length (those (λ p. p.held) two.host.places) ∷ []

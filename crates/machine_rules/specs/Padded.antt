-- "No padded short ids.": forming refuses an identifier of the old service, four bytes filled with zeros, and "Contracts already held stay
-- usable." Assumes nothing.
use Rattle.std.specs.Prelude.{◌≡◌, Bool, true, false, List, ℕ, length}
use Rattle.area.specs.Area.{same}
use Rattle.sia.specs.Names.{read_only}
use Rattle.host.specs.Places.{whose}
use Rattle.host.specs.Calls.{freshed, padded, formed, dropped}
use Rattle.machine_rules.specs.Visit.{Areas, Opening, Agreement, opens, gives, stops, closes}
use Rattle.host.specs.Padded.{Padding, Fifteen}
use Rattle.host.specs.Renaming.{Renaming, exchanged}
use Rattle.machine_rules.specs.Renaming.{Alike}
use Rattle.host.specs.declared.Host.{Host}

-- a host holds a contract under that id
abbrev pub holds : Host → List ℕ → Bool
holds h id = (whose id h.places).held

-- no call forms a contract of that id: one that is held afterwards was held before
pub record NoneFormed (h : Host) (a : Areas) (id : List ℕ) : Type 0 where
  pub forming : (other : List ℕ) → holds (formed h other).host id ≡ true → holds h id ≡ true
  pub dropping : (other : List ℕ) → holds (dropped h other).host id ≡ true → holds h id ≡ true
  pub opening : (o : Opening) → holds (opens h o).host id ≡ true → holds h id ≡ true
  pub piece : (bytes : List ℕ) → holds (gives h a bytes).host id ≡ true → holds h id ≡ true
  pub interrupt : holds (stops h a).host id ≡ true → holds h id ≡ true
  pub closing : (g : Agreement) → holds (closes h a g).host id ≡ true → holds h id ≡ true

pub record ShortIds : Type 0 where
  pub padding : (id : List ℕ) → Padding id
  -- the ReadOnly word is not one: 5 is its answer
  pub word : padded read_only ≡ false
  pub fifteen : (h : Host) (id : List ℕ) → Fifteen h id
  -- no call forms a contract with a padded id, and a host that is made holds none
  pub fresh : (z disk stage : ℕ) (id : List ℕ) → holds (freshed z disk stage).host id ≡ false
  pub none : (h : Host) (a : Areas) (id : List ℕ) → padded id ≡ true → NoneFormed h a id
  -- a contract that is held under a padded id is found, opened, changed, closed and dropped as under any other: exchange the two, and every
  -- call answers and leaves the same
  pub alike : (r : List ℕ → List ℕ) → Renaming r → (h : Host) (a : Areas) → Alike r h a
  pub exchange : (one two : List ℕ) → length one ≡ length two → same read_only one ≡ false → same read_only two ≡ false
      → Renaming (exchanged one two)

-- Every call under new ids: it may look at which ids are equal and which is the ReadOnly word, and at nothing else of an id. Assumes
-- nothing.
use Rattle.std.specs.Prelude.{◌≡◌, List, [], ◌∷◌, ◌++◌, ℕ, length, take, drop, get_or}
use Rattle.area.specs.Area.{put}
use Rattle.sia.specs.Names.{op_of}
use Rattle.sia.specs.Empty.{no_instruction}
use Rattle.host.specs.With.{program_of}
use Rattle.host.specs.Order.{in_order}
use Rattle.host.specs.Renaming.{host_as}
use Rattle.host.specs.Calls.{padded, formed, dropped}
use Rattle.host.specs.Calls as Contract
use Rattle.machine_rules.specs.Seats.{located}
use Rattle.machine_rules.specs.Inputs.{inputs_of}
use Rattle.machine_rules.specs.Calls.{answered, pieced, interrupted}
use Rattle.machine_rules.specs.Commit.{closed}
use Rattle.machine_rules.specs.Visit.{Areas, Opening, Agreement, opens, gives, stops, reaches, closes}
use Rattle.sia.specs.declared.Op.{Op}
use Rattle.sia.specs.declared.Op.TheVariants.{Read, ReadSector, Write, Copy, Swap, Truncate, Unknown}
use Rattle.sia.specs.declared.Head.{Head}
use Rattle.host.specs.declared.Host.{Host}

module _ (r : List ℕ → List ℕ) where
  -- an opening: the contract's id is the first 32 bytes of a head
  abbrev pub opening_as : Opening → Opening
  opening_as o = record { bytes = r (take 32 o.bytes) ++ drop 32 o.bytes; budget = o.budget; prices = o.prices; room = o.room }

  -- the inputs of an instruction: a Read names a contract by its first
  unfoldable pub first_as : List (List ℕ) → List (List ℕ)
  first_as [] = []
  first_as (id ∷ l) = r id ∷ l

  unfoldable pub inputs_as : Op → List (List ℕ) → List (List ℕ)
  inputs_as Read l = first_as l
  inputs_as ReadSector l = l
  inputs_as Write l = l
  inputs_as Copy l = l
  inputs_as Swap l = l
  inputs_as Truncate l = l
  inputs_as Unknown l = l

  -- an input area: that of each instruction of the head
  abbrev pub AsksAs : Head → List ℕ → List ℕ → Type 0
  AsksAs d area area' =
      (n : ℕ) → let i = get_or d.instructions n no_instruction in inputs_of i area' ≡ inputs_as (op_of i.name) (inputs_of i area)

-- ---- what is promised

-- each call, made under the new ids, answers and leaves the same, under the new ids
pub record Alike (r : List ℕ → List ℕ) (h : Host) (a : Areas) : Type 0 where
  pub order : in_order (host_as r h) ≡ in_order h
  -- forming asks how an id looks, and nothing else does
  pub forming : (id : List ℕ) → padded (r id) ≡ padded id → let x = formed h id in
      formed (host_as r h) (r id) ≡ Contract.answered x.number (host_as r x.host)
  pub dropping : (id : List ℕ) → let x = dropped h id in
      dropped (host_as r h) (r id) ≡ Contract.answered x.number (host_as r x.host)
  pub opening : (o : Opening) → let x = opens h o in
      opens (host_as r h) (opening_as r o) ≡ answered x.number x.tally (host_as r x.host)
  -- the input areas aside, which hold what they were given
  pub piece : (input bytes bytes' : List ℕ) → length input ≡ length a.input → length bytes' ≡ length bytes
      → AsksAs r (program_of h).terms.head (put a.input (program_of h).came bytes) (put input (program_of h).came bytes')
      → let x = gives h a bytes in
      let y = gives (host_as r h) (record { disk = a.disk; stage = a.stage; input = input; output = a.output }) bytes' in
      y ≡ pieced x.number x.tally (host_as r x.host) x.stage y.input x.output
  pub interrupt : let x = stops h a in
      stops (host_as r h) a ≡ interrupted x.number x.tally (host_as r x.host) x.output
  pub reached : reaches (host_as r h) a ≡ reaches h a
  pub locating : (key : List ℕ) → located (host_as r h) key ≡ located h key
  pub closing : (g : Agreement) → let x = closes h a g in
      closes (host_as r h) a g ≡ closed x.number x.tally x.growth (host_as r x.host) x.disk

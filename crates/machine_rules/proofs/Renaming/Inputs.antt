-- The inputs of an instruction under new ids: they are told alike, and name what was named before. Assumes nothing.
use Rattle.lists.proofs.Kit.{◌≡◌, refl, sym, ap, List, [], ◌∷◌, ℕ, suc, eqb}
use Rattle.lists.proofs.Laws.Entries.{empty}
use Rattle.machine_rules.specs.declared.Setting.{Setting}
use Rattle.machine_rules.specs.Inputs.{data_in, nth, is_key, well_formed, read_args, args_of}
use Rattle.machine_rules.specs.declared.Args.{Args}
use Rattle.machine_rules.specs.Plan.{source_of, touched, new_size}
use Rattle.machine_rules.specs.Effect.{Ground, Staging, effect}
use Rattle.machine_rules.specs.Record.{output_of}
use Rattle.host.specs.Renaming.{Renaming}
use Rattle.machine_rules.specs.Renaming.{first_as, inputs_as}
use Rattle.sia.specs.declared.Op.{Op}
use Rattle.sia.specs.declared.Op.TheVariants.{Read, ReadSector, Write, Copy, Swap, Truncate, Unknown}
use Rattle.host.specs.declared.Progress.{Progress}
use Rattle.machine_rules.specs.declared.Spot.{Spot}
use Rattle.machine_rules.proofs.Renaming.Sight.{setting_as, contract-as, sector-as}

-- arguments with another key: no instruction looks at it but by what it finds
abbrev pub with_key : Args → List ℕ → Args
with_key a k = record { key = k; first = a.first; second = a.second; len = a.len }

pub new-key : (size : ℕ) (op : Op) (a : Args) (k : List ℕ) → new_size size op (with_key a k) ≡ new_size size op a
unfolding new_size
new-key size Read a k = refl
new-key size ReadSector a k = refl
new-key size Write a k = refl
new-key size Copy a k = refl
new-key size Swap a k = refl
new-key size Truncate a k = refl
new-key size Unknown a k = refl

pub touched-key : (z size : ℕ) (op : Op) (a : Args) (k : List ℕ) → touched z size op (with_key a k) ≡ touched z size op a
unfolding touched
touched-key z size Read a k = refl
touched-key z size ReadSector a k = refl
touched-key z size Write a k = refl
touched-key z size Copy a k = refl
touched-key z size Swap a k = refl
touched-key z size Truncate a k = refl
touched-key z size Unknown a k = refl

pub effect-key : (z : ℕ) (e : Ground) (size : ℕ) (op : Op) (a : Args) (k d : List ℕ) (g : Staging)
    → effect z e size op (with_key a k) d g ≡ effect z e size op a d g
unfolding effect
effect-key z e size Read a k d g = refl
effect-key z e size ReadSector a k d g = refl
effect-key z e size Write a k d g = refl
effect-key z e size Copy a k d g = refl
effect-key z e size Swap a k d g = refl
effect-key z e size Truncate a k d g = refl
effect-key z e size Unknown a k d g = refl

pub output-key : (z : ℕ) (disk stage : List ℕ) (l : List Spot) (a : Args) (k : List ℕ)
    → output_of z disk stage l (with_key a k) ≡ output_of z disk stage l a
unfolding output_of
output-key z disk stage [] a k = refl
output-key z disk stage (x ∷ l) a k = refl

module _ (r : List ℕ → List ℕ) (new : Renaming r) where
  none-as : r [] ≡ []
  none-as = empty (r []) (new.long [])

  abbrev pub key_as : Op → List ℕ → List ℕ
  key_as Read k = r k
  key_as ReadSector k = k
  key_as Write k = k
  key_as Copy k = k
  key_as Swap k = k
  key_as Truncate k = k
  key_as Unknown k = k

  pub source-as : (s : Setting) (f : Spot → List ℕ) (p : Progress) (op : Op) (key : List ℕ)
      → source_of (setting_as r new s) f p op (key_as op key) ≡ source_of s f p op key
  unfolding source_of
  source-as s f p Read key = contract-as r new s p key
  source-as s f p ReadSector key = sector-as r new s f p key
  source-as s f p Write key = refl
  source-as s f p Copy key = refl
  source-as s f p Swap key = refl
  source-as s f p Truncate key = refl
  source-as s f p Unknown key = refl

  nth-as : (l : List (List ℕ)) → nth (first_as r l) 0 ≡ r (nth l 0)
  unfolding first_as
  nth-as [] = sym none-as
  nth-as (id ∷ l) = refl

  -- the inputs behind the first
  rest-as : (l : List (List ℕ)) (n : ℕ) → nth (first_as r l) (suc n) ≡ nth l (suc n)
  unfolding first_as
  rest-as [] n = refl
  rest-as (id ∷ l) n = refl

  key-as : (id : List ℕ) → is_key (r id) ≡ is_key id
  unfolding is_key
  key-as id = ap (λ (n : ℕ). eqb n 32) (new.long id)

  pub well-as : (op : Op) (l : List (List ℕ)) → well_formed op (inputs_as r op l) ≡ well_formed op l
  unfolding well_formed inputs_as
  well-as Read l = rw (nth-as l, key-as (nth l 0), rest-as l 0, rest-as l 1)
  well-as ReadSector l = refl
  well-as Write l = refl
  well-as Copy l = refl
  well-as Swap l = refl
  well-as Truncate l = refl
  well-as Unknown l = refl

  pub args-as : (op : Op) (l : List (List ℕ)) → args_of op (inputs_as r op l) ≡ with_key (args_of op l) (key_as op (args_of op l).key)
  unfolding args_of inputs_as read_args
  args-as Read l = rw (nth-as l, rest-as l 0, rest-as l 1)
  args-as ReadSector l = refl
  args-as Write l = refl
  args-as Copy l = refl
  args-as Swap l = refl
  args-as Truncate l = refl
  args-as Unknown l = refl

  pub data-as : (op : Op) (l : List (List ℕ)) → data_in (inputs_as r op l) ≡ data_in l
  unfolding data_in inputs_as
  data-as Read l = rw (rest-as l 0)
  data-as ReadSector l = refl
  data-as Write l = refl
  data-as Copy l = refl
  data-as Swap l = refl
  data-as Truncate l = refl
  data-as Unknown l = refl

-- An effect by the instruction. z is the sector size. Assumes nothing.
use Rattle.lists.proofs.Kit.{◌≡◌, refl, sym, ap, ◌∙◌, List, ℕ}
use Rattle.machine_rules.specs.declared.Args.{Args}
use Rattle.machine_rules.specs.Effect.{Ground, Staging, effect}
use Rattle.sia.specs.declared.Op.{Op}
use Rattle.sia.specs.declared.Op.TheVariants.{Read, ReadSector, Write, Copy, Swap, Truncate, Unknown}

-- the code's arm
pub arm : {x : Staging} {op known : Op} (z : ℕ) (e : Ground) (size : ℕ) (a : Args) (d : List ℕ) (g : Staging) → op ≡ known
    → x ≡ effect z e size known a d g → x ≡ effect z e size op a d g
arm z e size a d g told q = q ∙ ap (λ (o : Op). effect z e size o a d g) (sym told)

-- ---- only Write's effect looks at data
pub effect-data : (z : ℕ) (e : Ground) (size : ℕ) (op : Op) (a : Args) (d l : List ℕ) (g : Staging) → (op ≡ Write → d ≡ l)
    → effect z e size op a d g ≡ effect z e size op a l g
unfolding effect
effect-data z e size Read a d l g h = refl
effect-data z e size ReadSector a d l g h = refl
effect-data z e size Write a d l g h = ap (λ (x : List ℕ). effect z e size Write a x g) (h refl)
effect-data z e size Copy a d l g h = refl
effect-data z e size Swap a d l g h = refl
effect-data z e size Truncate a d l g h = refl
effect-data z e size Unknown a d l g h = refl

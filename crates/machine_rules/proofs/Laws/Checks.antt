-- Readers that agree give the same plan. Assumes nothing.
use Rattle.lists.proofs.Kit.{◌≡◌, refl, ap, true, not, List, ℕ}
use Rattle.lists.proofs.Kit.{length}
use Rattle.lists.specs.Pick.{pick, both}
use Rattle.lists.specs.Tests.{every}
use Rattle.sia.specs.Names.{op_of}
use Rattle.machine_rules.specs.View.{read_only_mode, free_copies}
use Rattle.machine_rules.specs.declared.Setting.{Setting}
use Rattle.machine_rules.specs.Seats.{seats_of}
use Rattle.machine_rules.specs.Inputs.{args_of, ill_formed, past_end, well_formed}
use Rattle.machine_rules.specs.Plan.{Source, is_there, spots, sought_source, sector_source, source_of}
use Rattle.machine_rules.specs.Kinds.{changes}
use Rattle.machine_rules.specs.Plan.{refused, fitted, weighed, planned_inputs, planned_args, planned, judged}
use Rattle.sia.specs.declared.Op.{Op}
use Rattle.sia.specs.declared.Op.TheVariants.{Read, ReadSector, Write, Copy, Swap, Truncate, Unknown}
use Rattle.sia.specs.declared.Instruction.{Instruction}
use Rattle.host.specs.declared.Progress.{Progress}
use Rattle.machine_rules.specs.declared.Spot.{Spot}
use Rattle.machine_rules.specs.Plan.{Plan}
use Rattle.machine_rules.proofs.Laws.Readers.{agree, first-agree}

-- ---- checks

pub source-alike : (s : Setting) (f g : Spot → List ℕ) (p : Progress) (op : Op) (key : List ℕ)
    → every (λ x. agree f g x.spot) (seats_of s p) ≡ true
    → source_of s f p op key ≡ source_of s g p op key
unfolding source_of sector_source
source-alike s f g p Read key h = refl
source-alike s f g p ReadSector key h = ap sought_source (first-agree f g key (seats_of s p) h)
source-alike s f g p Write key h = refl
source-alike s f g p Copy key h = refl
source-alike s f g p Swap key h = refl
source-alike s f g p Truncate key h = refl
source-alike s f g p Unknown key h = refl

inputs-alike : (s : Setting) (f g : Spot → List ℕ) (p : Progress) (i : Instruction) (op : Op) (l : List (List ℕ))
    → every (λ x. agree f g x.spot) (seats_of s p) ≡ true
    → planned_inputs s f p i op l ≡ planned_inputs s g p i op l
unfolding planned_inputs planned_args weighed fitted read_only_mode free_copies
inputs-alike s f g p i op l h =
    ap (λ (from : Source). pick (not (well_formed op l)) (refused 23) (pick (both (changes op) (read_only_mode s.terms)) (refused 24)
    (pick (not (is_there from)) (refused 25) (weighed s p i.proof (length (spots from)) op (args_of op l)))))
    (source-alike s f g p op (args_of op l).key h)

pub judged-alike : (s : Setting) (f g : Spot → List ℕ) (p : Progress) (i : Instruction) (l : List (List ℕ))
    → every (λ x. agree f g x.spot) (seats_of s p) ≡ true
    → judged s f p i l ≡ judged s g p i l
unfolding judged planned
judged-alike s f g p i l h = ap (λ (r : Plan). (pick (ill_formed i) (refused 21) (pick (past_end s.terms.head.length i) (refused 22) r)).number)
    (inputs-alike s f g p i (op_of i.name) l h)

-- `machine_plan::lookup::source_of` meets its contract, arm by arm. Assumes nothing.
use Rattle.lists.proofs.Kit.{◌≡◌, sym, ap, ◌∙◌}
use Rattle.machine_rules.specs.Roots.{kept_root}
use Rattle.machine_rules.specs.Plan.{Source, seen, source_of}
use Rattle.sia.specs.declared.Op.{Op}
use mathlib.Core.Logic.{⊎_elim}
use Rattle.machine_plan.proofs.lookup.source_of.Goals as goal
use Rattle.machine_plan.proofs.lookup.source_of.Goals.{Start}

-- what is read, by the operation
abbrev source-at : Start → Op → Source
source-at s o =
    source_of s.args.setting.now (kept_root s.args.diskroots.now s.args.stageroots.now) s.args.p o s.args.key

-- in an arm the operation is known
arm : (s : Start) {r : Source} {o : Op} → s.args.op ≡ o → r ≡ source-at s o → r ≡ source-at s s.args.op
arm s told e = e ∙ sym (ap (source-at s) told)

pub contract_source-requires : goal.contract_source-requires
contract_source-requires c = let stand = c.requires.seeks.stand in record { size = stand.size; places_value = stand.order }

pub sector_source-requires : goal.sector_source-requires
unfolding source_of
sector_source-requires c = c.requires

pub returns-in-Read : goal.returns-in-Read
unfolding source_of
returns-in-Read c = arm (goal.at.returns-in-Read c).Start c.in-Read.is c.contract_source.ensures

pub returns-in-ReadSector : goal.returns-in-ReadSector
unfolding source_of
returns-in-ReadSector c = arm (goal.at.returns-in-ReadSector c).Start c.in-ReadSector.is c.sector_source.ensures

pub returns-in-Write : goal.returns-in-Write
unfolding source_of
returns-in-Write c =
    let s = (goal.at.returns-in-Write c).Start in
    let none = ap seen c.nothing.ensures.0 in
    ⊎_elim (λ e. arm s e none) (⊎_elim (λ e. arm s e none) (⊎_elim (λ e. arm s e none)
    (⊎_elim (λ e. arm s e none) (λ e. arm s e none)))) c.in-Write.is

-- `machine_plan::room::new_size` meets its contract, arm by arm. Assumes nothing.
use Rattle.lists.proofs.Kit.{◌≡◌, refl, ℕ, sym, ap, ◌∙◌}
use Rattle.machine_rules.specs.Plan.{new_size}
use Rattle.sia.specs.declared.Op.{Op}
use mathlib.Core.Logic.{⊎_elim}
use Rattle.machine_plan.proofs.room.new_size.Goals as goal
use Rattle.machine_plan.proofs.room.new_size.Goals.{Start}

-- by the operation
abbrev size-at : Start → Op → ℕ
size-at s o = new_size s.args.size o s.args.args

-- in an arm the operation is known
arm : (s : Start) {r : ℕ} {o : Op} → s.args.op ≡ o → r ≡ size-at s o → r ≡ size-at s s.args.op
arm s told e = e ∙ sym (ap (size-at s) told)

pub returns-in-Read : goal.returns-in-Read
unfolding new_size
returns-in-Read c =
    let s = (goal.at.returns-in-Read c).Start in
    ⊎_elim (λ e. arm s e refl) (⊎_elim (λ e. arm s e refl) (⊎_elim (λ e. arm s e refl) (⊎_elim (λ e. arm s e refl)
    (⊎_elim (λ e. arm s e refl) (λ e. arm s e refl))))) c.in-Read.is

pub returns-in-Truncate : goal.returns-in-Truncate
unfolding new_size
returns-in-Truncate c = arm (goal.at.returns-in-Truncate c).Start c.in-Truncate.is refl

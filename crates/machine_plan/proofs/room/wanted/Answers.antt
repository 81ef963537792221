-- `machine_plan::room::wanted` meets its contract, arm by arm. Assumes nothing.
use Rattle.lists.proofs.Kit.{◌≡◌, sym, ap, ◌∙◌, ℕ, get_or, eqb}
use Rattle.host.specs.Empty.{none}
use Rattle.machine_rules.specs.Plan.{touched, wanted}
use Rattle.machine_plan.proofs.Laws.Room.{none-those, one-those}
use Rattle.sia.specs.declared.Op.{Op}
use mathlib.Core.Logic.{⊎_elim}
use Rattle.machine_plan.proofs.room.wanted.Goals as goal
use Rattle.machine_plan.proofs.room.wanted.Goals.{Start}

-- by the operation
abbrev wanted-at : Start → Op → ℕ
wanted-at s o = wanted s.args.z s.args.p o s.args.args

-- in an arm the operation is known
arm : (s : Start) {r : ℕ} {o : Op} → s.args.op ≡ o → r ≡ wanted-at s o → r ≡ wanted-at s s.args.op
arm s told e = e ∙ sym (ap (wanted-at s) told)

pub returns-in-Read : goal.returns-in-Read
unfolding wanted touched
returns-in-Read c =
    let s = (goal.at.returns-in-Read c).Start in
    let nought = none-those (λ at. eqb (get_or c.args.p.staged at none) none) in
    ⊎_elim (λ e. arm s e nought) (⊎_elim (λ e. arm s e nought) (λ e. arm s e nought)) c.in-Read.is

pub returns-in-Write : goal.returns-in-Write
unfolding wanted touched
returns-in-Write c =
    let s = (goal.at.returns-in-Write c).Start in
    let one = c.lacks.ensures.0 ∙ one-those (λ at. eqb (get_or c.args.p.staged at none) none) _ in
    ⊎_elim (λ e. arm s e one) (λ e. arm s e one) c.in-Write.is

pub returns-in-Swap : goal.returns-in-Swap
unfolding wanted touched
returns-in-Swap c = arm (goal.at.returns-in-Swap c).Start c.in-Swap.is c.wanted_swap.ensures

pub returns-in-Truncate : goal.returns-in-Truncate
unfolding wanted touched
returns-in-Truncate c = arm (goal.at.returns-in-Truncate c).Start c.in-Truncate.is c.wanted_size.ensures

-- `sia::fixed_name` meets its contract: a name that is one of the six is its fixed byte string. Assumes nothing.
use Rattle.lists.proofs.Kit.{sym, ◌∙◌}
use Rattle.sia.proofs.Theorems.{name-of-op}
use Rattle.sia.proofs.fixed_name.Goals as goal

pub returns-in_default : goal.returns-in_default
returns-in_default c = c.name.ensures ∙ sym (name-of-op _ _ c.in_default.not-Unknown (sym c.op_of.ensures))

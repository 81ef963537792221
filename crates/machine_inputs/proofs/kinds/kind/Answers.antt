-- `machine_inputs::kinds::kind` meets its contract, row by row. Assumes nothing.
use Rattle.lists.proofs.Kit.{◌≡◌, sym, ap, ◌∙◌}
use Rattle.machine_rules.specs.Kinds.{kind}
use Rattle.sia.specs.declared.Op.TheVariants.{Read, ReadSector}
use mathlib.Core.Logic.{⊎_elim}
use Rattle.machine_inputs.proofs.kinds.kind.Goals as goal

pub returns-in-Read : goal.returns-in-Read
unfolding kind
returns-in-Read c =
    c.row.ensures ∙ ⊎_elim (λ (q : c.args.op ≡ Read). sym (ap kind q)) (λ (q : c.args.op ≡ ReadSector). sym (ap kind q)) c.in-Read.is

pub returns-in-Write : goal.returns-in-Write
unfolding kind
returns-in-Write c = cc

pub returns-in-Copy : goal.returns-in-Copy
unfolding kind
returns-in-Copy c = cc

pub returns-in-Swap : goal.returns-in-Swap
unfolding kind
returns-in-Swap c = cc

pub returns-in-Truncate : goal.returns-in-Truncate
unfolding kind
returns-in-Truncate c = cc

pub returns-in-Unknown : goal.returns-in-Unknown
unfolding kind
returns-in-Unknown c = cc

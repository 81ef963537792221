-- `all_right` meets its contract: each slot is one of the area. Assumes nothing.
use Rattle.lists.proofs.Kit.{rules, ℕ, eqb}
use borrow.Author.Tests.{tests}
use Rattle.std.proofs.lemmas.Iterator.{YieldsList-from_slice}
use Rattle.std.proofs.lemmas.Iterator.Adapters.{serves_from_places}
use Rattle.lists.specs.Pick.{either}
use Rattle.lists.proofs.Laws.Library.{all-every}
use Rattle.host.specs.Empty.{none}
use Rattle.machine_rules.specs.Sound.{right, staged_right}
use Rattle.machine.proofs.Laws.Beside.{one-beside}
use Rattle.machine.proofs.sounding.all_right.Goals as goal

pub all-requires-clause-callable : goal.all-requires-clause-callable
all-requires-clause-callable c =
    let a = c.args in
    serves_from_places (YieldsList-from_slice a.slots.now (cc)) (λ x q k. search (rules, tests))
    (λ x k lt e. search (rules, one-beside a.z a.bytes.now a.roots.now a.slots.now k x.now c.requires lt e))

pub returns : goal.returns
unfolding staged_right
returns c =
    let a = c.args in
    all-every (λ (n : ℕ). either (eqb n none) (right a.z a.bytes.now a.roots.now n)) _ _ _ c.all.ensures.ran
    (YieldsList-from_slice a.slots.now (cc)) (λ x b q k. search (rules, tests))

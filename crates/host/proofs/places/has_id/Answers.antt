-- `host::places::has_id` meets its contract. Assumes nothing.
use Rattle.lists.proofs.Laws.Pick.{yes, no}
use Rattle.host.specs.Places.{has_id}
use Rattle.host.proofs.places.has_id.Goals as goal

pub returns-then-p : goal.returns-then-p
unfolding has_id
returns-then-p c = yes _ _ _ c.if-p.true c.same_id.ensures

pub returns-else-p : goal.returns-else-p
unfolding has_id
returns-else-p c = no _ _ _ c.if-p.false c.if-p.false

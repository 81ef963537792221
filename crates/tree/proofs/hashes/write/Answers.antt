-- `hashes::write` meets its contract: what is laid from the least depth that holds the leaves is what depth 64 gives. Assumes nothing.
use Rattle.tree.proofs.Laws.Levels.{walked-deep, room-deep}
use Rattle.tree.proofs.Laws.Laid.{laid-deep}
use Rattle.tree.proofs.hashes.write.Goals as goal

pub walk-requires : goal.walk-requires
walk-requires c =
    let w = c.requires in
    let holds = c.depth.ensures in
    record { walked = walked-deep w.walked holds; all = w.all; room = room-deep _ _ _ _ _ _ _ holds w.room }

pub returns : goal.returns
returns c = laid-deep _ _ _ _ _ _ _ _ _ c.depth.ensures c.walk.ensures

-- The two parts that std exchanges. Assumes nothing.
use Rattle.area.proofs.Laws.Exchange.{met-apart}
use Rattle.area.proofs.swap_apart.Goals as goal

pub returns : goal.returns
returns c =
    let s = c.split_at_mut-front.ensures in
    met-apart _ _ _ _ c.requires.apart c.requires.in_bounds s.front s.back c.swap_with_slice.ensures.after c.swap_with_slice.ensures.other_after

-- `machine_effect::spans::swap` meets its contract: once both sectors have their copies both spans read as before, and are exchanged in place.
-- Assumes nothing.
use Rattle.lists.proofs.Kit.{arith}
use Rattle.machine_effect.specs.Parts.{told_ground}
use Rattle.machine_effect.proofs.Laws.Spans.{lent-made, one-fits, two_fits, swapped}
use Rattle.machine_effect.proofs.spans.swap.Goals as goal

-- ---- what the calls ask
pub copy_in-requires-2-clause-lent : goal.copy_in-requires-2-clause-lent
copy_in-requires-2-clause-lent c = lent-made _ _ _ _ _ c.copy_in.ensures.copied _ c.requires.lent c.requires.two.second (omega arith)

pub swap_within-requires : goal.swap_within-requires
swap_within-requires c =
    let one = one-fits _ (told_ground c.args.ground.now) _ _ _ _ _ _ c.copy_in.ensures.copied c.copy_in-2.ensures.copied c.requires.lent
    c.requires.two (omega arith) in
    let two = two_fits _ (told_ground c.args.ground.now) _ _ _ _ _ _ c.copy_in.ensures.copied c.copy_in-2.ensures.copied c.requires.lent
    c.requires.two (omega arith) in
    record { n_in_bounds = omega (arith, one, c.place-first.ensures); n_in_bounds_2 = omega (arith, two, c.place-second.ensures) }

pub returns-clause-swapped : goal.returns-clause-swapped
returns-clause-swapped c =
    swapped _ (told_ground c.args.ground.now) _ _ _ _ _ _ c.copy_in.ensures.copied c.copy_in-2.ensures.copied c.requires.lent c.requires.two
    (omega arith) c.place-first.ensures c.place-second.ensures c.swap_within.ensures

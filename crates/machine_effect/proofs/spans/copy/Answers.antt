-- `machine_effect::spans::copy` meets its contract: once the target has its copy, the source reads as before, in the stage or on the disk.
-- Assumes nothing.
use Rattle.lists.proofs.Kit.{sym, ◌∙◌, arith}
use Rattle.machine_effect.proofs.Laws.Spans.{written-fits, moved-fits, moved, fetched-fits, fetched}
use Rattle.machine_effect.proofs.spans.copy.Goals as goal

-- ---- the source on the disk
pub copy_between-requires : goal.copy_between-requires
copy_between-requires c =
    let made = c.copy_in.ensures.copied in
    let none = sym c.is_bare.ensures ∙ c.if-is_bare.true in
    let fits = written-fits _ _ _ _ _ made _ c.requires.lent c.requires.over (omega arith) in
    let other = fetched-fits _ _ _ _ _ made _ c.requires.lent c.requires.over (omega arith) _ c.requires.from (omega arith) none in
    record { n_in_bounds = omega (arith, other, c.place.ensures); n_in_bounds_2 = omega (arith, fits, c.place-there.ensures) }

pub returns-then-is_bare-clause-copied : goal.returns-then-is_bare-clause-copied
returns-then-is_bare-clause-copied c =
    fetched _ _ _ _ _ c.copy_in.ensures.copied _ c.requires.lent c.requires.over (omega arith) _ c.requires.from (omega arith)
    (sym c.is_bare.ensures ∙ c.if-is_bare.true) c.place-there.ensures c.place.ensures c.copy_between.ensures

-- ---- the source in the stage
pub move_within-requires : goal.move_within-requires
move_within-requires c =
    let made = c.copy_in.ensures.copied in
    let some = sym c.is_bare.ensures ∙ c.if-is_bare.false in
    let fits = written-fits _ _ _ _ _ made _ c.requires.lent c.requires.over (omega arith) in
    let other = moved-fits _ _ _ _ _ made _ c.requires.lent c.requires.over (omega arith) _ c.requires.from some in
    record { n_in_bounds = omega (arith, other, c.place-here.ensures); n_in_bounds_2 = omega (arith, fits, c.place-there.ensures) }

pub returns-else-is_bare-clause-copied : goal.returns-else-is_bare-clause-copied
returns-else-is_bare-clause-copied c =
    moved _ _ _ _ _ c.copy_in.ensures.copied _ c.requires.lent c.requires.over (omega arith) _ c.requires.from
    (sym c.is_bare.ensures ∙ c.if-is_bare.false) c.place-there.ensures c.place-here.ensures c.move_within.ensures

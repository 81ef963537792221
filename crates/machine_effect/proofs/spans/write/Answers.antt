-- `machine_effect::spans::write` meets its contract: the sector has a copy, and the span lies within it. Assumes nothing.
use Rattle.lists.proofs.Kit.{refl, arith, ap, ◌∙◌}
use Rattle.area.specs.Area.{put}
use Rattle.area.proofs.Laws.Parts.{part-whole}
use Rattle.machine_effect.proofs.Laws.Spans.{written, written-fits}
use Rattle.machine_effect.proofs.spans.write.Goals as goal

pub copy_between-requires-clause-n_in_bounds_2 : goal.copy_between-requires-clause-n_in_bounds_2
copy_between-requires-clause-n_in_bounds_2 c =
    omega (arith, written-fits _ _ _ _ _ c.copy_in.ensures.copied _ c.requires.lent c.requires.over (omega arith), c.place-there.ensures)

pub returns-clause-written : goal.returns-clause-written
returns-clause-written c =
    written _ _ _ _ _ c.copy_in.ensures.copied _ c.place-there.ensures
    (c.copy_between.ensures ∙ ap (put _ c.place-there.result) (part-whole c.args.bytes.now _ refl))

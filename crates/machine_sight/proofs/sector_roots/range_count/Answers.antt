-- `range_count` meets its contract: the range lies within the segments. Assumes nothing.
use Rattle.std.specs.Prelude.{◌≡◌, Ok, is_ok}
use Rattle.lists.proofs.Kit.{sym, ap, ◌∙◌, arith, ◌+◌, ◌/◌, ◌≤◌, ◌<◌}
use Rattle.tree.specs.Answers.{count_of}
use Rattle.tree.specs.Walk.{count}
use Rattle.area.proofs.Laws.Slots.{span-ends, segments-all, segments-few}
use Rattle.tree.proofs.Promise.{calls}
use Rattle.machine_rules.specs.Roots.{segments}
use Rattle.machine_sight.proofs.sector_roots.range_count.Goals as goal
use Rattle.machine_sight.proofs.sector_roots.range_count.Goals.{After-count}

pub overflow_add-at : goal.overflow_add-at
overflow_add-at c =
    let inside = c.requires.ranged.inside in
    let few = segments-few _ c.requires.size c.args.sectors (omega arith) in
    omega (arith, span-ends _ _ _ _ inside.below inside.one, segments-all _ c.requires.size c.args.sectors, few)

told : (c : After-count) → c.count.result ≡ Ok (count (segments c.args.z c.args.sectors) (c.args.at / 64) ((c.args.at + c.args.n) / 64))
told c =
    let g = c.requires.ranged in
    let some : c.args.at / 64 < (c.args.at + c.args.n) / 64 = omega (arith, g.some, g.first, g.whole) in
    let ends = span-ends _ _ _ _ g.inside.below g.inside.one in
    let all = segments-all _ c.requires.size c.args.sectors in
    let within : (c.args.at + c.args.n) / 64 ≤ segments c.args.z c.args.sectors = omega (arith, ends, all) in
    calls.count-told c.count.result _ _ _ c.count.ensures.answer some within

pub unwrap-requires : goal.unwrap-requires
unwrap-requires c = ap is_ok (told (goal.at.unwrap-requires c).After-count)

pub returns : goal.returns
returns c = ap count_of (sym c.unwrap.ensures ∙ told (goal.at.returns c).After-count)

pub overflow_mul-segments : goal.overflow_mul-segments
overflow_mul-segments c = omega (arith, segments-few _ c.requires.size c.args.sectors (omega arith))

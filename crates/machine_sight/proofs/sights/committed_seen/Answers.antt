-- `committed_seen` meets its contract: of a contract in order, its slots; else none. Assumes nothing.
use Rattle.lists.proofs.Kit.{◌∙◌, refl, arith, replicate, not-true, not-false}
use Rattle.host.specs.Empty.{none}
use Rattle.host.proofs.Laws.Lengths.{placed}
use Rattle.machine_rules.proofs.Laws.Sizes.{place-size}
use Rattle.machine_sight.proofs.Laws.Sights.{none-staged, seen-committed, seen_nothing}
use Rattle.machine_sight.proofs.sights.committed_seen.Goals as goal

pub returns-then-not-place : goal.returns-then-not-place
returns-then-not-place c = (
  c.nothing.ensures.0 ∙ seen_nothing _ _ (not-true _ c.if-not-place.true),
  omega (arith, c.nothing.ensures.1),
)

pub returns : goal.returns
returns c =
    let held = not-false _ c.if-not-place.false in
    let few = (place-size c.args.z c.args.place c.requires.place_value held).1 in (
      c.parent_seen.ensures.0
          ∙ seen-committed c.args.place.slots (replicate 64 none) (none-staged 64) _ c.args.place held refl
          (omega (arith, few, placed c.args.place _ c.well_formed.1.0)),
      omega (arith, few, c.parent_seen.ensures.1),
    )

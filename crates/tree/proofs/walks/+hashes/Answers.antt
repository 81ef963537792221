-- `walks::hashes` meets its contract, by the depth, which is the measure: outside 1, wholly inside 0, else the sum of what the calls one
-- level down give. Assumes nothing.
use Rattle.lists.proofs.Kit.{refl, sym, ap, subst, ◌∙◌, arith}
use Rattle.tree.specs.Asks.{Walked}
use Rattle.tree.specs.Walk.{hashes}
use Rattle.tree.specs.declared.walks.Subtree.{Subtree}
use Rattle.tree.proofs.Laws.Counts.{hashes-out, hashes-in, hashes-less, hashes-more}
use Rattle.tree.proofs.Laws.Levels.{below-one, below-two, level, told_in, few, walked-less, walked-right}
use Rattle.tree.proofs.walks.+hashes.Goals as goal

pub returns-then-outside : goal.returns-then-outside
returns-then-outside t c = sym (hashes-out _ _ _ _ _ (sym c.outside.ensures ∙ c.if-outside.true))

pub returns-then-inside : goal.returns-then-inside
returns-then-inside t c =
    sym (hashes-in _ _ _ _ _ (told_in _ _ _ _ c.outside.ensures c.if-outside.false c.inside.ensures c.if-inside.true))

pub below-requires-clause-some : goal.below-requires-clause-some
below-requires-clause-some t c = (level _ _ _ _ _ c.requires c.outside.ensures c.if-outside.false c.inside.ensures c.if-inside.false).deep

pub hashes-requires : goal.hashes-requires
hashes-requires t c =
    let l = level _ _ _ _ _ c.requires c.outside.ensures c.if-outside.false c.inside.ensures c.if-inside.false in
    let q = below-one _ c.below.ensures c.in-One.is in (
      omega (arith, l.deep, ap (λ (k : Subtree). k.depth) q.1),
      subst (λ (k : Subtree). Walked k.at k.n k.depth) (sym q.1) (walked-less _ l refl q.0),
    )

pub hashes-requires-in-Two-2 : goal.hashes-requires-in-Two-2
hashes-requires-in-Two-2 t c =
    let l = level _ _ _ _ _ c.requires c.outside.ensures c.if-outside.false c.inside.ensures c.if-inside.false in
    let q = below-two _ c.below.ensures c.in-Two.is in (
      omega (arith, l.deep, ap (λ (k : Subtree). k.depth) q.2),
      subst (λ (k : Subtree). Walked k.at k.n k.depth) (sym q.2) (walked-right _ l refl q.0),
    )

pub returns-in-One : goal.returns-in-One
returns-in-One t c =
    let l = level _ _ _ _ _ c.requires c.outside.ensures c.if-outside.false c.inside.ensures c.if-inside.false in
    let a = c.args in
    let q = below-one _ c.below.ensures c.in-One.is in
    c.hashes.ensures ∙ ap (λ (k : Subtree). hashes k.depth k.at k.n a.range.first a.range.end) q.1
    ∙ sym (hashes-less _ _ _ _ _ _ l.deep refl q.0 l.cut)

pub returns-in-Two : goal.returns-in-Two
returns-in-Two t c =
    let l = level _ _ _ _ _ c.requires c.outside.ensures c.if-outside.false c.inside.ensures c.if-inside.false in
    let a = c.args in
    let q = below-two _ c.below.ensures c.in-Two.is in
    omega (
      arith,
      c.hashes-in-Two.ensures,
      ap (λ (k : Subtree). hashes k.depth k.at k.n a.range.first a.range.end) q.1,
      c.hashes-in-Two-2.ensures,
      ap (λ (k : Subtree). hashes k.depth k.at k.n a.range.first a.range.end) q.2,
      hashes-more _ _ _ _ _ _ l.deep refl q.0 l.cut,
    )

pub overflow_add-result : goal.overflow_add-result
overflow_add-result t c =
    let l = level _ _ _ _ _ c.requires c.outside.ensures c.if-outside.false c.inside.ensures c.if-inside.false in
    let a = c.args in
    let q = below-two _ c.below.ensures c.in-Two.is in
    omega (
      arith,
      c.hashes-in-Two.ensures,
      ap (λ (k : Subtree). hashes k.depth k.at k.n a.range.first a.range.end) q.1,
      c.hashes-in-Two-2.ensures,
      ap (λ (k : Subtree). hashes k.depth k.at k.n a.range.first a.range.end) q.2,
      hashes-more _ _ _ _ _ _ l.deep refl q.0 l.cut,
      few l,
      l.walked.top,
    )

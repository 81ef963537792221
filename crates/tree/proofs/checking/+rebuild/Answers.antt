-- `rebuild` meets its contract, by the depth, which is the measure: outside the next hash is read, wholly inside it is the root
-- over the leaves given, else the node of what the calls one level down give. Assumes nothing.
use Rattle.lists.proofs.Kit.{refl, sym, ap, subst, ◌∙◌, false, List, ℕ, arith}
use Rattle.tree.specs.Asks.{Rebuilt}
use Rattle.tree.specs.Tree.{leaf_of}
use Rattle.tree.specs.declared.walks.Range.{Range}
use Rattle.tree.specs.declared.walks.Subtree.{Subtree}
use Rattle.tree.proofs.Laws.Sides.{in-tells}
use Rattle.tree.proofs.Laws.Levels.{below-one, below-two, level, told_in, room_out}
use Rattle.tree.proofs.Laws.Built.{Built, given-cover, built-out, built_in, built-less, built-more, asked-less, asked-left, asked-right}
use Rattle.tree.proofs.checking.+rebuild.Goals as goal

-- what is built over a subtree
abbrev BuiltOf : List ℕ → List ℕ → Subtree → Range → ℕ → ℕ → List ℕ → Type 0
BuiltOf b hs k range p next x = Built (leaf_of false b) hs k.at k.n k.depth range.first range.end p next x

pub read-root-requires : goal.read-root-requires
read-root-requires t c = room_out _ _ _ _ _ _ _ (sym c.outside.ensures ∙ c.if-outside.true) c.requires.enough

pub returns-then-outside : goal.returns-then-outside
returns-then-outside t c = built-out _ _ _ _ _ _ _ _ (sym c.outside.ensures ∙ c.if-outside.true) c.read-root.ensures

pub overflow_sub-here : goal.overflow_sub-here
overflow_sub-here t c = (in-tells _ _ _ _ (sym c.inside.ensures ∙ c.if-inside.true)).0

pub over-root-requires : goal.over-root-requires
over-root-requires t c =
    let w = c.requires in
    let i = told_in _ _ _ _ c.outside.ensures c.if-outside.false c.inside.ensures c.if-inside.true in
    record {
      some = w.walked.some;
      deep = w.walked.deep;
      top = omega (arith, w.walked.top);
      all = given-cover _ _ _ _ _ i w.given;
    }

pub returns-then-inside : goal.returns-then-inside
returns-then-inside t c =
    let i = told_in _ _ _ _ c.outside.ensures c.if-outside.false c.inside.ensures c.if-inside.true in
    built_in _ _ _ _ _ _ _ _ i c.over-root.ensures

pub below-requires-clause-some : goal.below-requires-clause-some
below-requires-clause-some t c = (level _ _ _ _ _ c.requires.walked c.outside.ensures c.if-outside.false c.inside.ensures c.if-inside.false).deep

pub rebuild-requires : goal.rebuild-requires
rebuild-requires t c =
    let a = c.args in
    let l = level _ _ _ _ _ c.requires.walked c.outside.ensures c.if-outside.false c.inside.ensures c.if-inside.false in
    let q = below-one _ c.below.ensures c.in-One.is in (
      omega (arith, l.deep, ap (λ (k : Subtree). k.depth) q.1),
      subst (λ (k : Subtree). Rebuilt a.bytes.now a.given.now k.at k.n k.depth a.range.first a.range.end a.p) (sym q.1)
          (asked-less _ l refl q.0 c.requires),
    )

pub rebuild-left-requires : goal.rebuild-left-requires
rebuild-left-requires t c =
    let a = c.args in
    let l = level _ _ _ _ _ c.requires.walked c.outside.ensures c.if-outside.false c.inside.ensures c.if-inside.false in
    let q = below-two _ c.below.ensures c.in-Two.is in (
      omega (arith, l.deep, ap (λ (k : Subtree). k.depth) q.1),
      subst (λ (k : Subtree). Rebuilt a.bytes.now a.given.now k.at k.n k.depth a.range.first a.range.end a.p) (sym q.1)
          (asked-left _ l refl q.0 c.requires),
    )

pub rebuild-right-requires : goal.rebuild-right-requires
rebuild-right-requires t c =
    let a = c.args in
    let l = level _ _ _ _ _ c.requires.walked c.outside.ensures c.if-outside.false c.inside.ensures c.if-inside.false in
    let q = below-two _ c.below.ensures c.in-Two.is in
    let left = subst
    (λ (k : Subtree). BuiltOf a.bytes.now a.given.now k a.range a.p c.rebuild-left.result.next c.rebuild-left.result.root)
    q.1 c.rebuild-left.ensures in (
      omega (arith, l.deep, ap (λ (k : Subtree). k.depth) q.2),
      subst (λ (k : Subtree). Rebuilt a.bytes.now a.given.now k.at k.n k.depth a.range.first a.range.end c.rebuild-left.result.next) (sym q.2)
          (asked-right _ l refl q.0 c.requires left.0),
    )

pub returns-in-One : goal.returns-in-One
returns-in-One t c =
    let a = c.args in
    let l = level _ _ _ _ _ c.requires.walked c.outside.ensures c.if-outside.false c.inside.ensures c.if-inside.false in
    let q = below-one _ c.below.ensures c.in-One.is in
    built-less _ _ _ _ l refl q.0 (subst
    (λ (k : Subtree). BuiltOf a.bytes.now a.given.now k a.range a.p c.rebuild.result.next c.rebuild.result.root)
    q.1 c.rebuild.ensures)

pub returns-in-Two : goal.returns-in-Two
returns-in-Two t c =
    let a = c.args in
    let l = level _ _ _ _ _ c.requires.walked c.outside.ensures c.if-outside.false c.inside.ensures c.if-inside.false in
    let q = below-two _ c.below.ensures c.in-Two.is in
    let left = subst
    (λ (k : Subtree). BuiltOf a.bytes.now a.given.now k a.range a.p c.rebuild-left.result.next c.rebuild-left.result.root)
    q.1 c.rebuild-left.ensures in
    let right = subst
    (λ (k : Subtree). BuiltOf a.bytes.now a.given.now k a.range c.rebuild-left.result.next c.rebuild-right.result.next c.rebuild-right.result.root)
    q.2 c.rebuild-right.ensures in
    built-more _ _ _ _ l refl q.0 left right c.node-root.ensures

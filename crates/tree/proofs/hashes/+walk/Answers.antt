-- `hashes::walk` meets its contract, by the depth, which is the measure: outside the part's root is laid, wholly inside nothing, else
-- the calls one level down lay the left and then the right. Assumes nothing.
use Rattle.lists.proofs.Kit.{refl, sym, ap, subst, ◌∙◌, List, ℕ, arith}
use Rattle.tree.specs.Asks.{Written}
use Rattle.tree.specs.Leaves.{are_roots, bytes_of}
use Rattle.tree.specs.declared.leaves.Leaves.{Leaves}
use Rattle.tree.specs.declared.walks.Range.{Range}
use Rattle.tree.specs.declared.walks.Subtree.{Subtree}
use Rattle.tree.proofs.Laws.Levels.{below-one, below-two, level, told_in, room_out}
use Rattle.tree.proofs.Laws.Laid.{Laid, root-long, laid_out, laid_in, laid-less, laid_more, written-less, written-left, written-right}
use Rattle.tree.proofs.hashes.+walk.Goals as goal

-- what is laid, and what a walk asks, over a subtree
abbrev LaidOf : Leaves → Subtree → Range → List ℕ → ℕ → ℕ → List ℕ → Type 0
LaidOf l k range a p r x = Laid (are_roots l) (bytes_of l) k.at k.n k.depth range.first range.end a p r x

abbrev WrittenOf : Leaves → Subtree → Range → List ℕ → ℕ → Type 0
WrittenOf l k range a p = Written (are_roots l) (bytes_of l) k.at k.n k.depth range.first range.end a p

pub copy_between-requires : goal.copy_between-requires
copy_between-requires t c =
    let w = c.requires in
    let long = root-long _ _ _ _ _ w.walked.some w.all c.over-root.ensures in
    record {
      n_in_bounds = omega (arith, long);
      n_in_bounds_2 = room_out _ _ _ _ _ _ _ (sym c.outside.ensures ∙ c.if-outside.true) w.room;
    }

pub overflow_add-result : goal.overflow_add-result
overflow_add-result t c =
    let room = room_out _ _ _ _ _ _ _ (sym c.outside.ensures ∙ c.if-outside.true) c.requires.room in
    search (arith, room)

pub returns-then-outside : goal.returns-then-outside
returns-then-outside t c =
    let w = c.requires in
    laid_out _ _ _ _ _ _ _ _ _ w.walked.some w.all (sym c.outside.ensures ∙ c.if-outside.true) c.over-root.ensures c.copy_between.ensures

pub returns-then-inside : goal.returns-then-inside
returns-then-inside t c =
    laid_in _ _ _ _ _ _ _ _ _ (told_in _ _ _ _ c.outside.ensures c.if-outside.false c.inside.ensures c.if-inside.true)

pub below-requires-clause-some : goal.below-requires-clause-some
below-requires-clause-some t c = (level _ _ _ _ _ c.requires.walked c.outside.ensures c.if-outside.false c.inside.ensures c.if-inside.false).deep

pub walk-requires : goal.walk-requires
walk-requires t c =
    let a = c.args in
    let l = level _ _ _ _ _ c.requires.walked c.outside.ensures c.if-outside.false c.inside.ensures c.if-inside.false in
    let q = below-one _ c.below.ensures c.in-One.is in (
      omega (arith, l.deep, ap (λ (k : Subtree). k.depth) q.1),
      subst (λ (k : Subtree). WrittenOf a.leaves k a.range a.out.now a.p) (sym q.1)
          (written-less _ l refl q.0 c.requires),
    )

pub walk-next-requires : goal.walk-next-requires
walk-next-requires t c =
    let a = c.args in
    let l = level _ _ _ _ _ c.requires.walked c.outside.ensures c.if-outside.false c.inside.ensures c.if-inside.false in
    let q = below-two _ c.below.ensures c.in-Two.is in (
      omega (arith, l.deep, ap (λ (k : Subtree). k.depth) q.1),
      subst (λ (k : Subtree). WrittenOf a.leaves k a.range a.out.now a.p) (sym q.1)
          (written-left _ l refl q.0 c.requires),
    )

pub walk-requires-in-Two : goal.walk-requires-in-Two
walk-requires-in-Two t c =
    let a = c.args in
    let l = level _ _ _ _ _ c.requires.walked c.outside.ensures c.if-outside.false c.inside.ensures c.if-inside.false in
    let q = below-two _ c.below.ensures c.in-Two.is in
    let left = subst
    (λ (k : Subtree). LaidOf a.leaves k a.range a.out.now a.p c.walk-next.result c.walk-next.new.out)
    q.1 c.walk-next.ensures in (
      omega (arith, l.deep, ap (λ (k : Subtree). k.depth) q.2),
      subst
          (λ (k : Subtree). WrittenOf a.leaves k a.range c.walk-next.new.out c.walk-next.result)
          (sym q.2) (written-right _ l refl q.0 c.requires left),
    )

pub returns-in-One : goal.returns-in-One
returns-in-One t c =
    let a = c.args in
    let l = level _ _ _ _ _ c.requires.walked c.outside.ensures c.if-outside.false c.inside.ensures c.if-inside.false in
    let q = below-one _ c.below.ensures c.in-One.is in
    laid-less _ _ _ _ _ l refl q.0 (subst
    (λ (k : Subtree). LaidOf a.leaves k a.range a.out.now a.p c.walk.result c.walk.new.out)
    q.1 c.walk.ensures)

pub returns-in-Two : goal.returns-in-Two
returns-in-Two t c =
    let a = c.args in
    let l = level _ _ _ _ _ c.requires.walked c.outside.ensures c.if-outside.false c.inside.ensures c.if-inside.false in
    let q = below-two _ c.below.ensures c.in-Two.is in
    let left = subst
    (λ (k : Subtree). LaidOf a.leaves k a.range a.out.now a.p c.walk-next.result c.walk-next.new.out)
    q.1 c.walk-next.ensures in
    let right = subst
    (λ (k : Subtree). LaidOf a.leaves k a.range c.walk-next.new.out c.walk-next.result c.walk-in-Two.result c.walk-in-Two.new.out)
    q.2 c.walk-in-Two.ensures in
    laid_more _ _ _ _ _ l refl c.requires.all q.0 left right

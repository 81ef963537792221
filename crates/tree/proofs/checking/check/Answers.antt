-- `check` meets its contract: each test in turn says no, and past them all the rebuilt root decides. Assumes nothing.
use Rattle.lists.proofs.Kit.{◌≡◌, refl, sym, ap, ◌∙◌, true, List, ℕ, ◌≤◌, ◌*◌, arith, length, leb, le-leb, lt-leb, eq-eqb}
use Rattle.lists.proofs.Kit.{ne_eqb}
use Rattle.lists.specs.Pick.{both}
use Rattle.lists.proofs.Laws.Pick.{yes, no, both-join, both-not-left, both-not-right}
use Rattle.area.specs.Area.{same}
use Rattle.tree.specs.Walk.{hashes, count}
use Rattle.tree.specs.Checker.{limit, rebuild, verdict}
use Rattle.tree.proofs.Laws.Counts.{hashes-few}
use Rattle.tree.proofs.Laws.Levels.{walked-deep, room-deep}
use Rattle.tree.proofs.Laws.Built.{built-deep}
use Rattle.tree.proofs.Laws.Answered.{ranged-tells, from-top}
use Rattle.tree.proofs.checking.check.Goals as goal

limited : (n : ℕ) → 1 ≤ n → n ≤ limit → both (leb 1 n) (leb n limit) ≡ true
limited n a b = both-join _ _ (le-leb 1 n a) (le-leb n limit b)

pub returns-then-count-lt1 : goal.returns-then-count-lt1
unfolding verdict
returns-then-count-lt1 c = no _ _ _ (both-not-left _ _ (lt-leb _ _ c.if-count-lt1.true)) refl

pub returns-then-count-gt-LIMIT : goal.returns-then-count-gt-LIMIT
unfolding verdict
returns-then-count-gt-LIMIT c = no _ _ _ (both-not-right _ _ (lt-leb _ _ c.if-count-gt-LIMIT.true)) refl

pub returns-then-not-ranged : goal.returns-then-not-ranged
unfolding verdict
returns-then-not-ranged c =
    yes _ _ _ (limited _ c.if-count-lt1.false c.if-count-gt-LIMIT.false)
    (no _ _ _ (sym c.ranged.ensures ∙ c.if-not-ranged.true) refl)

pub overflow_sub-end : goal.overflow_sub-end
overflow_sub-end c = let r = ranged-tells _ _ _ (sym c.ranged.ensures ∙ c.if-not-ranged.false) in omega arith

pub overflow_mul-end : goal.overflow_mul-end
overflow_mul-end c = let r = ranged-tells _ _ _ (sym c.ranged.ensures ∙ c.if-not-ranged.false) in omega arith

pub returns-then-bytes-end : goal.returns-then-bytes-end
unfolding verdict
returns-then-bytes-end c =
    yes _ _ _ (limited _ c.if-count-lt1.false c.if-count-gt-LIMIT.false)
    (yes _ _ _ (sym c.ranged.ensures ∙ c.if-not-ranged.false) (no _ _ _ (ne_eqb _ _ c.if-bytes-end.true) refl))

pub overflow_mul-count : goal.overflow_mul-count
unfolding count
overflow_mul-count c =
    let a = c.args in
    omega (arith, c.count.ensures, hashes-few 64 0 a.count a.first a.end (omega arith) (omega arith))

pub returns-then-hashes-count : goal.returns-then-hashes-count
unfolding verdict count
returns-then-hashes-count c =
    let a = c.args in
    let other : length a.hashes.now ≡ 32 * hashes 64 0 a.count a.first a.end → ⊥ =
    λ e. omega (arith, e, c.if-hashes-count.true, c.count.ensures) in
    yes _ _ _ (limited _ c.if-count-lt1.false c.if-count-gt-LIMIT.false)
    (yes _ _ _ (sym c.ranged.ensures ∙ c.if-not-ranged.false)
    (yes _ _ _ (eq-eqb _ _ c.if-bytes-end.false) (no _ _ _ (ne_eqb _ _ other) refl)))

pub rebuild-built-requires : goal.rebuild-built-requires
unfolding count
rebuild-built-requires c =
    let holds = c.depth.ensures in
    record {
      walked = walked-deep (from-top _ (omega arith) (omega arith)) holds;
      given = omega (arith, c.if-bytes-end.false);
      enough = room-deep _ _ _ _ _ _ _ holds (omega (arith, c.if-hashes-count.false, c.count.ensures));
    }

pub returns : goal.returns
unfolding verdict count rebuild
returns c =
    let a = c.args in
    let used : length a.hashes.now ≡ 32 * hashes 64 0 a.count a.first a.end =
    omega (arith, c.if-hashes-count.false, c.count.ensures) in
    let built = built-deep _ _ _ _ _ _ _ _ c.depth.ensures c.rebuild-built.ensures in
    yes _ _ _ (limited _ c.if-count-lt1.false c.if-count-gt-LIMIT.false)
    (yes _ _ _ (sym c.ranged.ensures ∙ c.if-not-ranged.false)
    (yes _ _ _ (eq-eqb _ _ c.if-bytes-end.false)
    (yes _ _ _ (eq-eqb _ _ used) (c.same.ensures ∙ ap (λ (l : List ℕ). same a.root.now l) built.1))))

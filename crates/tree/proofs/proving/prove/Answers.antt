-- `prove` meets its contract: refused where the bytes, the range or the area are not as stated, else the walk is laid from byte 0 on.
-- Assumes nothing.
use Rattle.lists.proofs.Kit.{◌≡◌, sym, ◌∙◌, ◌*◌, arith, length}
use Rattle.tree.specs.Walk.{count, proof}
use Rattle.tree.specs.Answers.{proved}
use Rattle.tree.proofs.Laws.Leaves.{segments-cover}
use Rattle.tree.proofs.Laws.Answered.{Provable, provable-tells, from-top, proof-long, proof-put, not-asked, no_room, all_laid}
use Rattle.tree.proofs.proving.prove.Goals as goal
use Rattle.tree.proofs.proving.prove.Goals.{After-count-count}

tells : (c : After-count-count) → Provable c.args.bytes.now c.args.first c.args.end
tells c = provable-tells _ _ _ (sym c.provable.ensures ∙ c.if-not-provable.false)

-- the count counts the proof
long : (c : After-count-count) → length (proof c.args.bytes.now c.args.first c.args.end) ≡ 32 * c.count-count.result
unfolding count
long c =
    let p = tells c in
    let a = c.args in
    omega (arith, c.count-count.ensures, proof-long a.bytes.now a.first a.end (omega arith) (omega arith))

pub returns-then-not-provable-clause-answer : goal.returns-then-not-provable-clause-answer
unfolding proved
returns-then-not-provable-clause-answer c = not-asked _ _ _ (sym c.provable.ensures ∙ c.if-not-provable.true)

pub count-count-requires : goal.count-count-requires
count-count-requires c = let p = provable-tells _ _ _ (sym c.provable.ensures ∙ c.if-not-provable.false) in omega arith

pub returns-then-out-count-clause-answer : goal.returns-then-out-count-clause-answer
unfolding proved
returns-then-out-count-clause-answer c =
    no_room _ _ _ (omega (arith, long (goal.at.returns-then-out-count-clause-answer c).After-count-count, c.if-out-count.true))

pub write-requires : goal.write-requires
unfolding count
write-requires c =
    let p = tells (goal.at.write-requires c).After-count-count in
    record {
      walked = from-top _ (omega arith) (omega arith);
      all = segments-cover _ _ (omega arith);
      room = omega (arith, c.count-count.ensures, c.if-out-count.false);
    }

pub returns-clause-answer : goal.returns-clause-answer
unfolding proved
returns-clause-answer c =
    let l = long (goal.at.returns-clause-answer c).After-count-count in
    all_laid _ _ _ (sym c.provable.ensures ∙ c.if-not-provable.false) l (omega (arith, l, c.if-out-count.false))
    (proof-put _ _ _ _ c.write.ensures.1)

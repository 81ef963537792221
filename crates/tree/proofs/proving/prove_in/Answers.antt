-- `prove_in` meets its contract: refused where the roots, the part, the range or the area are not as stated, else the proof is laid from
-- byte 0 on. Assumes nothing.
use Rattle.lists.proofs.Kit.{sym, ◌∙◌, arith}
use Rattle.tree.specs.Answers.{proved_in}
use Rattle.tree.proofs.Laws.Answered.{provable-in-tells, not-asked, no_room, all_laid}
use Rattle.tree.proofs.proving.prove_in.Goals as goal

pub returns-then-not-provable_in-clause-answer : goal.returns-then-not-provable_in-clause-answer
unfolding proved_in
returns-then-not-provable_in-clause-answer c = not-asked _ _ _ (sym c.provable_in.ensures ∙ c.if-not-provable_in.true)

pub count-total-requires : goal.count-total-requires
count-total-requires c = provable-in-tells _ _ _ _ _ (sym c.provable_in.ensures ∙ c.if-not-provable_in.false)

pub returns-then-out-total-clause-answer : goal.returns-then-out-total-clause-answer
unfolding proved_in
returns-then-out-total-clause-answer c = no_room _ _ _ (omega (arith, c.count-total.ensures, c.if-out-total.true))

pub write-requires-clause-within : goal.write-requires-clause-within
write-requires-clause-within c = provable-in-tells _ _ _ _ _ (sym c.provable_in.ensures ∙ c.if-not-provable_in.false)

pub returns-clause-answer : goal.returns-clause-answer
unfolding proved_in
returns-clause-answer c =
    all_laid _ _ _ (sym c.provable_in.ensures ∙ c.if-not-provable_in.false) c.count-total.ensures
    (omega (arith, c.count-total.ensures, c.if-out-total.false)) c.write.ensures

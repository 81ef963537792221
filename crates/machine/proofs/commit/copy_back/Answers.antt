-- `machine::commit::copy_back` meets its contract. The loop's invariant: the positions that no pair has told yet are left to copy. Assumes nothing.
use Rattle.lists.proofs.Kit.{sym, ◌∙◌, arith, rules, take, length, length-append, length-take-le}
use Rattle.std.proofs.lemmas.Slice.Zip.{zip_turn, zip_end}
use Rattle.host.specs.Empty.{none}
use Rattle.machine.proofs.Laws.Bytes.{next-lies, back_one, back_done}
use Rattle.machine.proofs.commit.copy_back.Goals as goal

pub one_back-requires : goal.one_back-requires
one_back-requires c =
    let a = c.args in
    let turn = zip_turn (take a.n a.staged) (take a.n a.slots) c.loop-from.yielded _ _ c.next.new.self _ (search rules) (search rules)
    c.loop-from.yielded_by _ c.in-Some.is c.next.ensures.steps in
    next-lies a.z a.stage.now a.staged a.slots a.n (length c.loop-from.yielded)
    (omega (arith, turn, length-take-le a.n a.staged)) (turn.2 none) (turn.3 0) a.disk.now c.loop-from.disk c.requires c.loop-from.auto.disk

pub loop-from-preserved : goal.loop-from-preserved
loop-from-preserved c =
    let a = c.args in
    let turn = zip_turn (take a.n a.staged) (take a.n a.slots) c.loop-from.yielded _ _ c.next.new.self _ (search rules) (search rules)
    c.loop-from.yielded_by _ c.in-Some.is c.next.ensures.steps in
    simp length-append (c.loop-from.invariant ∙ back_one a.z a.stage.now a.staged a.slots a.n (length c.loop-from.yielded)
    (omega (arith, turn, length-take-le a.n a.staged)) (turn.2 none) (turn.3 0) c.loop-from.disk c.one_back.ensures)

pub returns : goal.returns
returns c =
    let a = c.args in
    let end = zip_end (take a.n a.staged) (take a.n a.slots) c.loop-from.yielded _ _ c.next.new.self _ (search rules) (search rules)
    c.loop-from.yielded_by c.in-None.is c.next.ensures.steps in
    sym (c.loop-from.invariant ∙ back_done _ _ _ _ _ _ c.loop-from.disk
    (omega (arith, end, length-take-le a.n a.staged, length-take-le a.n a.slots, c.requires.few)))

-- `bench_program::playing::give` meets its contract: a refusal of the piece, or what its close leaves. Assumes nothing.
use Rattle.lists.proofs.Kit.{refl, sym, ap, ◌∙◌}
use Rattle.host.proofs.Laws.Refusals.{number-not}
use Rattle.host.specs.Refusals.{number_in}
use Rattle.bench_program.specs.declared.Outcome.{Outcome}
use Rattle.bench_program.proofs.Laws.Plays.{front-is, rest-is, given-refused, given-closed, shown-none}
use Rattle.bench_program.proofs.playing.give.Goals as goal

pub returns-in-Err : goal.returns-in-Err
returns-in-Err c =
    let long = c.least-n.ensures in let a = c.args in
    given-refused a.host _ _ _ a.input.now _ (front-is _ _ a.input.now long) c.in-Err.ensures (rest-is _ _ a.input.now long)
    c.in-Err.why refl c.refused.ensures

pub returns-in-Ok-finish : goal.returns-in-Ok-finish
returns-in-Ok-finish c =
    let long = c.least-n.ensures in let a = c.args in
    given-closed a.host _ _ _ a.input.now _ (front-is _ _ a.input.now long) c.in-Ok.ensures (rest-is _ _ a.input.now long)
    c.closed.result refl c.in-Ok-finish.ensures refl c.closed.ensures.number c.closed.ensures.shown c.closed.ensures.host

pub returns-in-Err-finish : goal.returns-in-Err-finish
returns-in-Err-finish c =
    let long = c.least-n.ensures in let a = c.args in
    let why = c.in-Err-finish.why in
    given-closed a.host _ _ _ a.input.now _ (front-is _ _ a.input.now long) c.in-Ok.ensures (rest-is _ _ a.input.now long)
    c.refused-in-Err-finish.result refl c.in-Err-finish.ensures refl (ap (λ (o : Outcome). number_in o.refused) c.refused-in-Err-finish.ensures)
    (ap (λ (o : Outcome). o.written) c.refused-in-Err-finish.ensures ∙ shown-none _ _ (number-not why))
    (ap (λ (o : Outcome). o.host) c.refused-in-Err-finish.ensures)

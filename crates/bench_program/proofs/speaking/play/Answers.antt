-- `bench_program::speaking::play` meets its contract: the records stand in the output area; a number is laid over its front. Assumes nothing.
use Rattle.lists.proofs.Kit.{refl, sym, ap, ◌∙◌, arith}
use Rattle.host.specs.Refusals.{number_in}
use Rattle.host.proofs.Laws.Refusals.{number-not}
use Rattle.bench_program.proofs.Laws.Spoken.{speaks-number, speaks-records}
use Rattle.bench_program.proofs.speaking.play.Goals as goal

pub returns-in-Some : goal.returns-in-Some
returns-in-Some c =
    let why = c.in-Some.why in
    speaks-number c.answer-done.result _ c.answer-done.ensures (ap number_in c.in-Some.is ∙ sym c.number.ensures)
    (λ z. number-not why (sym c.number.ensures ∙ z)) (omega (arith, c.requires)) c.store.ensures

pub returns : goal.returns
returns c = speaks-records c.answer-done.result _ c.answer-done.ensures (ap number_in c.in_default.is) refl c.least.ensures

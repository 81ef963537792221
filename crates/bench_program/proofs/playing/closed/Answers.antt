-- `bench_program::playing::closed` meets its contract. Assumes nothing.
use Rattle.lists.proofs.Kit.{refl, sym, ap, ◌∙◌, ℕ}
use Rattle.machine.specs.Closes.{end_number}
use Rattle.machine.specs.declared.answers.End.{End}
use Rattle.bench_program.specs.Single.{shown}
use Rattle.bench_program.specs.declared.Outcome.{Outcome}
use Rattle.host.proofs.Laws.Refusals.{number-not}
use Rattle.host.specs.declared.refusal.Refusal.TheVariants.{Disagreed}
use Rattle.bench_program.proofs.Laws.Plays.{shown-none, shown-all}
use Rattle.bench_program.proofs.playing.closed.Goals as goal

pub returns-in-Closed-clause-shown : goal.returns-in-Closed-clause-shown
returns-in-Closed-clause-shown c =
    let written = c.args.written in shown-all written ∙ ap (λ (e : End). shown (end_number e) written) (sym c.in-Closed.is)

pub returns-in-Disagreed-clause-shown : goal.returns-in-Disagreed-clause-shown
returns-in-Disagreed-clause-shown c =
    let written = c.args.written in
    ap (λ (o : Outcome). o.written) c.refused.ensures
    ∙ shown-none 14 written (number-not Disagreed) ∙ ap (λ (e : End). shown (end_number e) written) (sym c.in-Disagreed.is)

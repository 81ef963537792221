-- `bench_program::run` meets its contract: a fresh host, then its contracts, then the program; the first refusal ends it. Assumes nothing.
use Rattle.bench_program.proofs.Laws.Plays.{run-unmade, run-unformed, run-goes}
use Rattle.bench_program.proofs.run.Goals as goal

-- ---- the first refusal, or the program
pub returns-in-Err : goal.returns-in-Err
returns-in-Err c =
    let a = c.args in run-unmade _ a.prices a.budget _ _ _ _ _ _ _ c.in-Err.why c.in-Err.ensures c.unmade.ensures c.refused.ensures

pub returns-in-Err-form_in_turn : goal.returns-in-Err-form_in_turn
returns-in-Err-form_in_turn c =
    let a = c.args in
    run-unformed _ a.prices a.budget _ _ _ _ _ _ _ c.in-Ok.ensures c.in-Err-form_in_turn.why c.in-Err-form_in_turn.ensures c.refused-in-Err-form_in_turn.ensures

pub returns-in-Ok-form_in_turn : goal.returns-in-Ok-form_in_turn
returns-in-Ok-form_in_turn c =
    let a = c.args in run-goes _ a.prices a.budget _ _ _ _ _ _ _ c.in-Ok.ensures c.in-Ok-form_in_turn.ensures c.begin.ensures

-- `bench_program::playing::finish` meets its contract: what reaching refuses, closing refuses. Assumes nothing.
use Rattle.std.proofs.Common.{rules, Err}
use Rattle.lists.proofs.Kit.{◌≡◌, ap, ◌∙◌}
use Rattle.machine.specs.Closes.{close_leaves}
use Rattle.bench_program.proofs.Laws.Plays.{ended_is, ended-refused}
use Rattle.bench_program.proofs.playing.finish.Goals as goal

pub returns-in_err-pair : goal.returns-in_err-pair
returns-in_err-pair c =
    let why = c.in_err-pair.field-0.0 in
    let is : c.from_residual.result ≡ Err why = search rules in
    ap (λ r. close_leaves c.args.host r c.args.disk.now) is ∙ ended-refused _ c.args.host _ why c.in_err-pair.ensures

pub returns : goal.returns
returns c = ended_is _ c.args.host _ c.in_ok-pair.ensures c.close.ensures

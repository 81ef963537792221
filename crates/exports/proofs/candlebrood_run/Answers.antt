-- `exports::candlebrood_run` meets its contract: an area of another length than 8, or what the program comes to. Assumes nothing.
use Rattle.lists.proofs.Kit.{ap, ◌∙◌}
use Rattle.exports.specs.Programs.{shown}
use Rattle.exports.proofs.Played.{not_eight, counted}
use Rattle.exports.proofs.candlebrood_run.Goals as goal

pub returns : goal.returns
returns c =
    ap (λ n. shown n c.run-done.new.disk c.run-done.new.stage c.run-done.new.input c.run-done.new.output c.store.new.a) c.number.ensures
    ∙ counted _ _ _ _ _ _ _ _ _ _ _ c.run-done.result c.if-count-ne8.false c.run-done.ensures c.store.ensures

pub returns-then-count-ne8 : goal.returns-then-count-ne8
returns-then-count-ne8 c = not_eight _ _ _ _ _ _ _ _ _ _ _ c.if-count-ne8.true

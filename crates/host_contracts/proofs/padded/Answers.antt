-- `host_contracts::padded` meets its contract. Assumes nothing.
use Rattle.lists.proofs.Kit.{◌≡◌, ap, ◌∙◌, arith, drop, length-drop, take_all, eqb}
use Rattle.lists.specs.Tests.{every}
use Rattle.host.specs.Calls.{padded}
use Rattle.host_contracts.proofs.padded.Goals as goal

pub returns : goal.returns
unfolding padded
returns c = c.zeros.ensures ∙ ap (every (λ b. eqb b 0)) (take_all 28 (drop 4 c.args.id) (omega (arith, length-drop 4 c.args.id)))

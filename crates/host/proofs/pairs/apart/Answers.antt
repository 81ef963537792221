-- `host::pairs::apart` meets its contract: no item is passed by. Assumes nothing.
use Rattle.std.proofs.Common.{rules}
use Rattle.lists.proofs.Kit.{sym, false}
use Rattle.lists.proofs.Laws.Pick.{never}
use Rattle.host.proofs.pairs.apart.Goals as goal

pub returns : goal.returns
returns g c = λ e h. c.apart_but.ensures (λ x. false) e (λ x b s. search rules) h (λ x y p. never (sym p))

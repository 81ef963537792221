-- `host::Program::none` meets its contract: no terms and no progress. Assumes nothing.
use Rattle.lists.proofs.Kit.{ap₂, false}
use Rattle.host.specs.declared.Terms.{Terms}
use Rattle.host.specs.declared.Progress.{Progress}
use Rattle.host.specs.Empty.{no_program}
use Rattle.host.proofs.Program.none.Goals as goal

pub returns : goal.returns
unfolding no_program
returns c = ap₂ (λ (terms : Terms) (progress : Progress). record { active = false; terms = terms; came = 0; progress = progress })
    c.none.ensures c.none-2.ensures

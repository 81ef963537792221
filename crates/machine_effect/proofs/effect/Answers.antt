-- `machine_effect::effect` meets its contract: the stage is as the value that borrowed it left it. Assumes nothing.
use Rattle.lists.proofs.Kit.{◌≡◌, ap, ◌∙◌, List, ℕ, rules}
use Rattle.machine_rules.specs.Effect.{Staging}
use Rattle.machine_effect.specs.Parts.{staging}
use Rattle.machine_effect.proofs.effect.Goals as goal

restaged : {a b l : List ℕ} {g : Staging} → b ≡ a → staging l a ≡ g → staging l b ≡ g
restaged {l = l} e p = ap (λ (m : List ℕ). staging l m) e ∙ p

pub returns : goal.returns
returns c = restaged (search rules) c.act.ensures.effect

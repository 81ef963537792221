-- `host::sizes::is_size` meets its contract. Assumes nothing.
use Rattle.lists.proofs.Kit.{◌≡◌, sym, ◌∙◌, arith, leb}
use mathlib.Core.Bool.{◌&&◌}
use Rattle.std.proofs.Common.{rules}
use Rattle.host.proofs.Laws.Sizes.{sized, unsized}
use Rattle.host.proofs.sizes.is_size.Goals as goal

pub returns-then-is_power_of_two : goal.returns-then-is_power_of_two
returns-then-is_power_of_two c =
    let within : c.contains.result ≡ (leb 4096 c.args.z && leb c.args.z 4194304) = search rules in
    within ∙ sized c.args.z (omega arith) (sym c.is_power_of_two.ensures ∙ c.if-is_power_of_two.true)

pub returns-else-is_power_of_two : goal.returns-else-is_power_of_two
returns-else-is_power_of_two c = c.if-is_power_of_two.false ∙ unsized c.args.z (sym c.is_power_of_two.ensures ∙ c.if-is_power_of_two.false)

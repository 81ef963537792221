-- What a function is told of the setting that it is given: the budget's bits, and how many entries its instructions have. Assumes nothing.
use Rattle.lists.proofs.Kit.{◌≡◌, List, ◌<◌, ◌^◌, length}
use mir.Val.{Val}
use denote.Laws.{Is}
use denote.Struct.Declared.{row}
use Rattle.sia.proofs.Laws.Known.{known-head}
use Rattle.host.specs.contracts.Terms as terms
use Rattle.machine_rules.specs.contracts.Setting as setting
use Rattle.host.specs.declared.Terms.{Terms}
use Rattle.machine_rules.specs.declared.Setting.{Setting}

known-terms : (t : Terms) (vs : List Val) → Is (row terms.the_type) t vs → (t.budget < 2 ^ 64) × (length t.head.instructions ≡ 32)
known-terms t vs g = (g.1.1.1.1.0.1, (known-head t.head _ g.1.1.0).1)

pub known-setting : (s : Setting) (vs : List Val) → Is (row setting.the_type) s vs → (s.terms.budget < 2 ^ 64) × (length s.terms.head.instructions ≡ 32)
known-setting s vs g = known-terms s.terms _ g.1.1.1.1.1.1.0

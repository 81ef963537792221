-- Where the operands of an instruction end. Assumes nothing.
use Rattle.std.specs.Prelude.{Bool, ℕ, ◌+◌, ltb, eqb}
use Rattle.lists.specs.Pick.{pick}
use Rattle.sia.specs.declared.Operand.{Operand}

-- 22 of one operand: "offset plus length of an operand above the declared length"
abbrev pub ends_past : ℕ → Operand → Bool
ends_past declared o = ltb declared (o.offset + o.len)

-- what one operand adds to the need
abbrev pub end_of : Operand → ℕ
end_of o = pick (eqb o.len 0) 0 (o.offset + o.len)

-- Checks 26 to 42 look at numbers alone. Assumes nothing.
use Rattle.lists.proofs.Kit.{◌≡◌, false, ℕ, ◌+◌, ◌%◌, ◌≤◌, arith, ltb-false}
use Rattle.lists.proofs.Laws.Pick.{either_left, either-right}
use Rattle.area.specs.Slots.{Size}
use Rattle.machine_rules.specs.Plan.{bad_span, bad_spans}
use Rattle.sia.specs.declared.Op.{Op}
use Rattle.sia.specs.declared.Op.TheVariants.{Read, ReadSector, Write, Copy, Swap, Truncate, Unknown}
use Rattle.machine_plan.specs.Numbers.{Small}
use Rattle.machine_rules.specs.declared.Args.{Args}

-- a span that is not bad is within a sector
span_small : (z : ℕ) → Size z → (end at n : ℕ) → bad_span z end at n ≡ false → n ≤ 4194304
unfolding bad_span
span_small z s end at n e = omega (arith, s.most, ltb-false z (at % z + n) (either-right _ _ (either-right _ _ e)))

-- what is charged for after 26
pub charged : (z : ℕ) → Size z → (size n : ℕ) (op : Op) (a : Args) → bad_spans z size n op a ≡ false → Small op a.len
unfolding bad_spans Small
charged z s size n Read a e = span_small z s _ _ _ e
charged z s size n ReadSector a e = span_small z s _ _ _ e
charged z s size n Write a e = span_small z s _ _ _ e
charged z s size n Copy a e = span_small z s _ _ _ (either_left _ _ e)
charged z s size n Swap a e = span_small z s _ _ _ (either_left _ _ e)
charged z s size n Truncate a e = tt
charged z s size n Unknown a e = tt

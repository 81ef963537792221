-- An operand is laid as two numbers, the offset first. Assumes nothing.
use Rattle.lists.proofs.Kit.{refl, sym, ap, ℕ, ◌+◌, arith}
use Rattle.area.proofs.Laws.Little.{length-bytes}
use Rattle.sia.specs.Encode.{operand_bytes}
use Rattle.sia.proofs.Laws.Joined.{length-operand, lay-two}
use Rattle.sia_write.proofs.OperandEntry.put.Goals as goal

pub store-requires : goal.store-requires
store-requires c = omega (arith, c.requires.bytes_in_bounds, length-operand c.args.self)

pub store-requires-2 : goal.store-requires-2
store-requires-2 c = omega (arith, c.requires.bytes_in_bounds, length-operand c.args.self, c.store.auto.a)

pub returns : goal.returns
unfolding operand_bytes
returns c = (
  ap (λ (n : ℕ). c.args.at + n) (sym (length-operand c.args.self)),
  lay-two _ _ _ _ _ c.store.ensures c.store-2.ensures (length-bytes 8 _) refl,
)

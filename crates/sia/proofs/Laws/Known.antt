-- The array lengths of declared structs, from what a function is told of a parameter. Assumes nothing.
use Rattle.lists.proofs.Kit.{◌≡◌, sym, ◌∙◌, List, map, ℕ, length, length-map}
use mir.Val.{Val}
use denote.Laws.{Is}
use denote.Struct.Declared.{row}
use denote.Struct.Field.{Field}
use Rattle.sia.specs.contracts.Instruction as instruction
use Rattle.sia.specs.contracts.Head as head
use Rattle.sia.specs.declared.Instruction.{Instruction}
use Rattle.sia.specs.declared.Head.{Head}

-- an array of values is as long as what it is read from
pub long : (F : Field) (l : List F.Value) {n : ℕ} → length (map F.into l) ≡ n → length l ≡ n
long F l e = sym (length-map l F.into) ∙ e

pub known-instruction : (x : Instruction) (vs : List Val) → Is (row instruction.the_type) x vs → (length x.name ≡ 16) × (length x.operands ≡ 4)
known-instruction x vs g = (g.1.1.0.1.0.1, g.1.1.1.1.0.1.0.1)

pub known-head : (h : Head) (vs : List Val) → Is (row head.the_type) h vs → (length h.contract ≡ 32) × (length h.instructions ≡ 32)
known-head h vs g = (g.1.1.0.1.0.1, g.1.1.1.1.0.1.0.1)

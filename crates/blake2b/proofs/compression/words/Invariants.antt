-- `blake2b::compression::words` meets its contract. The loop's invariant: the first words are read. Assumes nothing.
use Rattle.lists.proofs.Kit.{◌≡◌, ◌*◌, take, length}
use Rattle.lists.specs.Tab.{tab}
use Rattle.area.specs.Area.{part}
use Rattle.area.specs.Little.{value_of}
use Rattle.blake2b.proofs.compression.words.Given as goal

abbrev pub invariant-loop-i : goal.invariant-loop-i
invariant-loop-i l = (length l.word-items ≡ 16) × (take l.i l.word-items ≡ tab 0 l.i (λ k. value_of (part l.b (8 * k) 8)))

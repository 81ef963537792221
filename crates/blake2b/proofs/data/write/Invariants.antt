-- `blake2b::data::write` meets its contract. The loop's invariant: the bytes of the first words are laid. Assumes nothing.
use Rattle.lists.proofs.Kit.{◌≡◌, take}
use Rattle.area.specs.Area.{put, zeros}
use Rattle.blake2b.specs.Blake2b.{bytes}
use Rattle.blake2b.proofs.data.write.Given as goal

abbrev pub invariant-loop-i : goal.invariant-loop-i
invariant-loop-i l = l.all ≡ put (zeros 64) 0 (bytes (take l.i l.h))

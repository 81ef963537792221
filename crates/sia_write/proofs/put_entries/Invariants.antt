-- The loop's invariant: the bytes of the entries so far are laid, and the place is the one behind them. Assumes nothing.
use Rattle.lists.proofs.Kit.{◌≡◌, ◌+◌, length, take}
use Rattle.area.specs.Area.{put}
use Rattle.sia.specs.Encode.{joined}
use Rattle.sia_write.proofs.put_entries.Given as goal

abbrev pub invariant-loop-x : goal.invariant-loop-x
invariant-loop-x g l =
    (length l.out ≡ length l.initial.out) × (l.place ≡ l.at + length (joined g.T.Entry.bytes (take l.x-index l.list)))
    × (l.out ≡ put l.initial.out l.at (joined g.T.Entry.bytes (take l.x-index l.list)))

-- The loop's invariant: the first bytes of n are laid, and the others are the bytes of what is left of n. Assumes nothing.
use Rattle.lists.proofs.Kit.{◌≡◌, ◌-◌, take, drop}
use Rattle.area.specs.Area.{put}
use Rattle.area.specs.Little.{bytes_of}
use Rattle.area.proofs.store.Given as goal

abbrev pub invariant-loop-byte : goal.invariant-loop-byte
invariant-loop-byte l = record {
  laid : l.byte-items ≡ put l.initial.byte-items 0 (take l.byte-index (bytes_of l.k l.n));
  left : drop l.byte-index (bytes_of l.k l.n) ≡ bytes_of (l.k - l.byte-index) l.rest;
}

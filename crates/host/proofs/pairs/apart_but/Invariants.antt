-- `host::pairs::apart_but` meets its contract. The loop's invariant: the answer is that of the items that are left to look at.
-- Assumes nothing.
use Rattle.lists.proofs.Kit.{◌≡◌, Bool, true, false, length}
use Rattle.std.specs.Fn.{FnReturnsAt, FnReturnsAtPair}
use Rattle.lists.specs.Tests.{apart}
use Rattle.host.proofs.pairs.apart_but.Given as goal

abbrev pub invariant-loop-x : goal.invariant-loop-x
invariant-loop-x g l =
    goal.A-IsAlwaysCallable g l.alone × (goal.F-IsAlwaysCallable g l.related
    × ((a : g.row.T.Denot → Bool) (e : g.row.T.Denot → g.row.T.Denot → Bool) → ((x : _) (b : Bool) → FnReturnsAt g.A.Fn l.alone x b → b ≡ a x)
    → ((x y : _) (b : Bool) → FnReturnsAtPair g.F.Fn l.related x y b → b ≡ e x y)
    → ((x y : _) → a x ≡ true → e x y ≡ false) → apart e l.fn.items ≡ apart e l.rest))

abbrev pub decreases-loop-x : goal.decreases-loop-x
decreases-loop-x g l = length l.rest

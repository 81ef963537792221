-- `kept_roots` meets its contract. The loop's invariant: the roots kept beside the first i sectors stand in the array. Assumes nothing.
use Rattle.lists.proofs.Kit.{◌≡◌, ◌*◌, length, take}
use Rattle.lists.specs.Tab.{tab}
use Rattle.sia.specs.Encode.{joined}
use Rattle.machine_rules.specs.View.{spot_of}
use Rattle.machine_rules.specs.Roots.{kept_root}
use Rattle.machine_sight.proofs.contract_roots.kept_roots.Given as goal

abbrev pub invariant-loop-i : goal.invariant-loop-i
invariant-loop-i l =
    (length l.roots ≡ 2048)
    × (take (32 * l.i) l.roots
    ≡ joined (kept_root l.diskroots l.stageroots) (tab 0 l.i (spot_of l.seen.slots l.seen.staged)))

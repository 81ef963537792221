-- `kept_roots` meets its contract. The loop's invariant: the roots kept beside the first i sectors stand in the array. Assumes nothing.
use Rattle.lists.proofs.Kit.{◌≡◌, refl, sym, ap, ◌∙◌, ℕ, ◌+◌, ◌*◌, ◌≤◌, arith, length, take}
use Rattle.lists.specs.Tab.{tab}
use Rattle.sia.specs.Encode.{joined}
use Rattle.machine_rules.specs.View.{spot_of}
use Rattle.machine_rules.specs.Roots.{kept_root}
use Rattle.machine_sight.specs.Seen.{spots_of}
use Rattle.machine_sight.proofs.Laws.Sectors.{seen-lies}
use Rattle.machine_sight.proofs.Laws.Gathered.{none-gathered, one-gathered}
use Rattle.machine_sight.proofs.contract_roots.kept_roots.Goals as goal
use Rattle.machine_sight.proofs.contract_roots.kept_roots.Goals.{In-loop-i}

-- this root has its place in the array
room : (c : In-loop-i) → 32 * c.loop-i.i + 32 ≤ length c.loop-i.roots
room c = omega (arith, c.loop-i.invariant.0, c.requires.few)

pub loop-i-preserved : goal.loop-i-preserved
loop-i-preserved c =
    let l = c.loop-i in let root = c.kept_root-root.ensures in
    let f = kept_root c.args.diskroots.now c.args.stageroots.now in (
      c.copy_between.auto.dst ∙ l.invariant.0,
      one-gathered f (spot_of c.args.seen.slots c.args.seen.staged) l.roots 32 l.i root.1
          (omega (arith, room (goal.at.loop-i-preserved c).In-loop-i)) (root.0 ∙ ap f c.spot-spot.ensures) l.invariant.1
          c.copy_between.ensures,
    )

pub returns : goal.returns
unfolding spots_of
returns c =
    let l = c.loop-i in let f = kept_root c.args.diskroots.now c.args.stageroots.now in
    let e : c.args.seen.count ≡ l.i = omega arith in
    ap (λ (n : ℕ). take (32 * n) l.roots) e ∙ l.invariant.1
    ∙ ap (λ (n : ℕ). joined f (tab 0 n (spot_of c.args.seen.slots c.args.seen.staged))) (sym e)

pub loop-i-init : goal.loop-i-init
loop-i-init c = (refl, none-gathered _ _)

pub kept_root-root-requires : goal.kept_root-root-requires
kept_root-root-requires c = seen-lies _ _ _ _ _ c.requires.spots (omega arith) c.spot-spot.ensures

pub overflow_mul-i : goal.overflow_mul-i
overflow_mul-i c = omega (arith, room (goal.at.overflow_mul-i c).In-loop-i, c.loop-i.invariant.0)

pub copy_between-requires-clause-n_in_bounds : goal.copy_between-requires-clause-n_in_bounds
copy_between-requires-clause-n_in_bounds c = omega (arith, c.kept_root-root.ensures.1)

pub copy_between-requires-clause-n_in_bounds_2 : goal.copy_between-requires-clause-n_in_bounds_2
copy_between-requires-clause-n_in_bounds_2 c = omega (arith, room (goal.at.copy_between-requires-clause-n_in_bounds_2 c).In-loop-i)

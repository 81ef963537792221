-- `machine_plan::room::free_copies` meets its contract. The loop's invariant: what is counted and the slots that are left give the count. Assumes
-- nothing.
use Rattle.lists.proofs.Kit.{◌≡◌, refl, sym, ap, ◌∙◌, not, ℕ, ◌+◌, ◌-◌, arith}
use Rattle.lists.specs.Tests.{count, unused}
use Rattle.lists.proofs.Laws.Pick.{yes, no}
use Rattle.machine_plan.proofs.Laws.Room.{count-first, count-one, count-done}
use Rattle.machine_plan.proofs.room.free_copies.Goals as goal
use Rattle.machine_plan.proofs.room.free_copies.Goals.{then-not-staged_in, else-not-staged_in}

pub loop-i-preserved : goal.loop-i-preserved
loop-i-preserved c =
    let p = unused c.args.staged in
    let rest = count p (c.loop-i.i + 1) (c.args.copies - (c.loop-i.i + 1)) in
    elim c.if-not-staged_in.branch [
      | then-not-staged_in w ↦ (
        omega (arith, w.free-is),
        ap (λ (f : ℕ). f + rest) w.free-is
            ∙ count-one p c.loop-i.i c.args.copies c.loop-i.free 1 _ c.loop-i-test.true
            (yes _ _ _ (ap not (sym c.staged_in.ensures ∙ w.if-not-staged_in.true)) refl) c.loop-i.invariant.1,
      )
      | else-not-staged_in w ↦
          let same : c.loop-i.free ≡ c.loop-i.free + 0 = omega arith in (
            omega (arith, w.free-is),
            ap (λ (f : ℕ). f + rest) (w.free-is ∙ same)
                ∙ count-one p c.loop-i.i c.args.copies c.loop-i.free 0 _ c.loop-i-test.true
                (no _ _ _ (ap not (sym c.staged_in.ensures ∙ w.if-not-staged_in.false)) refl) c.loop-i.invariant.1,
          )
    ]

pub returns : goal.returns
returns c =
    count-done (unused c.args.staged) c.loop-i.i c.args.copies _ _ (omega arith) c.loop-i.invariant.1

pub loop-i-init : goal.loop-i-init
loop-i-init c = (omega arith, count-first (unused c.args.staged) c.args.copies)

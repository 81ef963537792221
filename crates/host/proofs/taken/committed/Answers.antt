-- `host::taken::committed` meets its contract. Assumes nothing.
use Rattle.lists.proofs.Kit.{◌≡◌, ap, ◌∙◌, ℕ, arith, length, take, length-take}
use Rattle.std.proofs.Common.{rules}
use Rattle.host.proofs.Laws.Slots.{none-taken, its-slots}
use Rattle.host.proofs.taken.committed.Goals as goal
use Rattle.host.proofs.taken.committed.Goals.{then-p, else-p}

pub returns : goal.returns
returns c =
    let p = c.args.p.now in
    let entries : length p.slots ≡ 64 = search rules in
    elim c.if-p.branch [
      | then-p w ↦
          let held = w.sectors-held.ensures in (
            ap (λ (n : ℕ). take n p.slots) w.held-is ∙ its-slots c.args.z p _ 64 w.if-p.true entries held.0,
            omega (arith, length-take c.if-p.held p.slots, w.held-is, held.1),
          )
      | else-p w ↦ (
        ap (λ (n : ℕ). take n p.slots) w.held-is ∙ none-taken c.args.z p w.if-p.false,
        omega (arith, length-take c.if-p.held p.slots, w.held-is),
      )
    ]

-- `host::places::sizes_fit` meets its contract. Assumes nothing.
use Rattle.lists.proofs.Kit.{sym, ap, ◌∙◌, arith, leb}
use Rattle.host.proofs.Laws.Places.{blank}
use Rattle.host.proofs.Laws.Sums.{fits-none, fits-further, fits-done}
use Rattle.host.proofs.places.sizes_fit.Goals as goal

pub returns-in-None : goal.returns-in-None
returns-in-None c =
    let a = c.args in
    fits-none a.id a.places c.loop-p.p-index 8 c.well_formed.0.1.0.1 blank _ _ c.own_size.ensures (omega arith) (omega (arith, c.in-None.ensures))
    ∙ sym c.loop-p.invariant

pub loop-p-preserved : goal.loop-p-preserved
loop-p-preserved c =
    let a = c.args in
    let taken = c.in-Some-checked_sub.ensures in
    c.loop-p.invariant
    ∙ fits-further a.id a.places c.loop-p.p-index 8 c.well_formed.0.1.0.1 blank _ _ c.own_size.ensures (omega arith) taken.0
    ∙ ap (leb _) (sym taken.1)

pub returns : goal.returns
returns c = fits-done c.args.id c.args.places c.loop-p.p-index 8 c.well_formed.0.1.0.1 _ (omega arith) ∙ sym c.loop-p.invariant
